use Rattle.cli_commands.proofs.PanelGuides.OnPages.{on_pages}
use Rattle.cli_commands.proofs.panel_guides.laws.explained_lines_are_on_pages.Goals as goal

pub returns : goal.returns
returns c = on_pages c.wired_setups_print_reports.ensures c.placed_lines_are_printed.ensures
