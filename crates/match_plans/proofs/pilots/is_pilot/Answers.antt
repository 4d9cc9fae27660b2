use Rattle.std.proofs.Common.{subst, sym}
use Rattle.hubs.specs.declared.hub.Hub.TheVariants.{FR, PIX}
use Rattle.chart_lines.specs.ChartsWords.Field.{column_of_rule}
use Rattle.match_plans.specs.NamingWires.NamesPart.{picked_up}
use Rattle.match_plans.proofs.PilotsTold.{picked-up}
use Rattle.hubs.specs.SetupsWords.Wiring.{HasWire}
use Rattle.match_plans.proofs.pilots.is_pilot.Goals as goal

pub returns-then-picks_up-clause-no : goal.returns-then-picks_up-clause-no
returns-then-picks_up-clause-no c = λ other its shows served told. c.is_told.ensures.no other its told.line shows told.listed served told.tells

pub returns-else-picks_up-clause-no : goal.returns-else-picks_up-clause-no
returns-else-picks_up-clause-no c = λ other its shows served told.
    c.picks_up.ensures.1
    (subst (λ n. HasWire c.args.setup.now (FR n) (PIX c.args.pilot)) (sym c.column_of.ensures)
    ((shows.alike _ _ (picked_up (column_of_rule c.args.amount.now.rule) c.args.pilot)).1
    (picked-up c.args.chart.now other c.lines-lines.ensures.lawful c.lines-lines.ensures.rising its shows.wired c.args.amount.now.field.name
    c.args.amount.now.field c.args.amount.now.rule c.args.pilot c.requires.named c.requires.ruled served)))
