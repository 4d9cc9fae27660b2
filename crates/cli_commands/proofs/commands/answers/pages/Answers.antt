use Rattle.cli_commands.proofs.CommandsWords.Refusing.{pages_reported, run_refused}
use Rattle.cli_commands.proofs.commands.answers.pages.Goals as goal

pub returns-clause-pages : goal.returns-clause-pages
returns-clause-pages c =
    pages_reported c.reported.result (λ pages. pages.items) c.args.chart.now c.args.deck.now c.in_ok-compiled.compiled
    c.in_ok-compiled.ensures.compiles c.reported.ensures.pages

pub returns-clause-refused : goal.returns-clause-refused
returns-clause-refused c =
    run_refused c.reported.result c.args.chart.now c.args.deck.now c.in_ok-compiled.compiled c.in_ok-compiled.ensures.compiles
    c.reported.ensures.refused
