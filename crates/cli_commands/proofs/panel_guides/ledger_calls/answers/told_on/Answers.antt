use Rattle.cli_commands.proofs.PanelGuides.Explaining.{lacks_place}
use Rattle.cli_commands.proofs.panel_guides.ledger_calls.answers.told_on.Goals as goal

pub returns-in-Err-clause-lacks : goal.returns-in-Err-clause-lacks
returns-in-Err-clause-lacks c =
    lacks_place c.in-Err.refusal c.args.setup.now c.args.cards.now c.args.place c.unexplained_at.result c.in-Ok.wheel c.in-Ok.ensures.1
    c.in-Err.ensures.no_wheel c.in-Err.ensures.wheel c.in-Err.ensures.no_line c.unexplained_at.ensures.wheel c.unexplained_at.ensures.line
    c.unexplained_at.ensures.memory
