use Rattle.readback_charts.specs.KnownCharts.{known_in}
use Rattle.cli_commands.proofs.PanelGuides.Explaining.{read_serves}
use Rattle.cli_calls.proofs.BrowserPages.Showing.{shows_wired}
use Rattle.cli_calls.proofs.browser_pages.pages.wired_page.Goals as goal

pub known_page-requires-clause-served : goal.known_page-requires-clause-served
known_page-requires-clause-served c = read_serves c.args.setup.now (known_in c.in_ok-read.read) c.in_ok-read.ensures.known

pub returns-clause-shows : goal.returns-clause-shows
returns-clause-shows c =
    shows_wired c.known_page.result c.args.setup.now c.args.wiring.now c.args.cards.now c.args.around (known_in c.in_ok-read.read)
    c.in_ok-read.ensures.known c.known_page.ensures.shows
