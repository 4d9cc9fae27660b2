use Rattle.std.proofs.Common.{Some, sym, ap, ◌∙◌, ◌≡◌}
use Rattle.match_plans.specs.Wired.{served_by}
use Rattle.match_plans.proofs.Alike.{back, leads-to-total}
use Rattle.match_plans.proofs.Found.{found-alike, served-there}
use Rattle.match_plans.proofs.PilotsTold.{by-counter}
use Rattle.wiring_table.specs.Parts.{counter_for}
use Rattle.match_plans.proofs.pilots.leads_to_total.Goals as goal

pub returns-in-Some : goal.returns-in-Some
returns-in-Some c = λ other its total shows listed is.
    let lines = c.args.chart.now.lines in
    let number = c.args.line.now.number in
    let found = found-alike c.args.chart.now c.lines-lines.ensures.lawful c.lines-lines.ensures.rising c.args.setup.now other its shows c.args.line.now
    c.shown_on.result total listed is c.shown_on.ensures.shown c.shown_on.ensures.none in
    let served : counter_for lines its number ≡ Some c.in-Some.counter =
    sym (ap (served_by lines its number) is) ∙ sym found ∙ c.in-Some.is in
    let own = by-counter lines its c.args.setup.now c.args.rule c.args.pilot number c.in-Some.counter c.negative_side.result
    c.units_group.result served c.negative_side.ensures.value c.units_group.ensures c.has.ensures.value in (
      (λ yes. leads-to-total shows.alike lines its c.args.rule c.args.pilot number (own.0 yes)),
      (λ leads. own.1 (leads-to-total (back shows.alike) lines its c.args.rule c.args.pilot number leads)),
    )

pub returns-in-None : goal.returns-in-None
returns-in-None c = λ other its total shows listed is.
    let found = found-alike c.args.chart.now c.lines-lines.ensures.lawful c.lines-lines.ensures.rising c.args.setup.now other its shows c.args.line.now
    c.shown_on.result total listed is c.shown_on.ensures.shown c.shown_on.ensures.none in
    let served = served-there c.args.chart.now c.lines-lines.ensures.lawful c.lines-lines.ensures.rising other its shows.wired
    c.args.line.now total listed is in
    let none = sym c.in-None.is ∙ found ∙ served.1 in
    cc
