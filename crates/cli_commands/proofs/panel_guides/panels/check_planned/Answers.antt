use Rattle.cli_commands.proofs.PanelGuides.PanelFaults.{chart_refused_for_any, planned_panel}
use Rattle.cli_commands.proofs.panel_guides.panels.check_planned.Goals as goal

pub returns-clause-good : goal.returns-clause-good
returns-clause-good c = planned_panel c.check.result c.args.text.now c.requires c.check.ensures.compiles

pub returns-clause-refused : goal.returns-clause-refused
returns-clause-refused c = chart_refused_for_any c.check.result c.args.text.now c.requires c.check.ensures.refused
