use Rattle.std.proofs.Common.{IfSome, Some, subst, ◌≡◌}
use Rattle.match_plans.specs.NamingWires.{ShowsPartsOf}
use Rattle.match_plans.proofs.PilotsTold.{none-for, same-name, signed-of, wanting}
use Rattle.chart_plans.specs.PlansWords.Plans.{Lists}
use Rattle.hubs.specs.SetupsWords.Wiring.{Wiring}
use Rattle.wiring_table.specs.Parts.{pilot_for}
use Rattle.match_plans.proofs.pilots.shown_pilot.Goals as goal

pub pilot_of-requires : goal.pilot_of-requires
pilot_of-requires c =
    signed-of c.args.chart.now.lines c.args.name c.in-Some.amount c.in-Some.ensures.some.0 c.in-Some.ensures.some.1

pub returns-in-Some-clause-shown : goal.returns-in-Some-clause-shown
returns-in-Some-clause-shown c =
    let lines = c.args.chart.now.lines in
    subst
    (λ n. IfSome c.pilot_of.result (λ pilot. (other : Wiring) (its : Lists) → ShowsPartsOf lines c.args.setup.now other its → pilot_for its n ≡ Some pilot))
    (same-name lines c.args.name c.in-Some.amount.field c.in-Some.ensures.some.0) c.pilot_of.ensures.shown

pub returns-in-Some-clause-none : goal.returns-in-Some-clause-none
returns-in-Some-clause-none c = λ there.
    none-for c.args.chart.now c.lines-lines.ensures.lawful c.args.setup.now c.args.name c.in-Some.amount.field there c.in-Some.ensures.some.0
    c.pilot_of.result c.pilot_of.ensures.none

pub returns-in-None-clause-none : goal.returns-in-None-clause-none
returns-in-None-clause-none c = λ there other its shows.
    let w = wanting c.args.chart.now c.lines-lines.ensures.lawful c.args.name there in
    c.in-None.ensures.none w.field w.rule w.named w.ruled
