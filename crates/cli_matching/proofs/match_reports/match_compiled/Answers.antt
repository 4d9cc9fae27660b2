use Rattle.std.proofs.Common.{IfOk, subst}
use Rattle.chart_lines.specs.ChartsWords.Chart.{Chart}
use Rattle.match_panels.specs.MatchingWords.Answers.{IsMatched, IsMatchingOf, plan_told}
use Rattle.match_panels.proofs.MatchingWords.Told.{wired-of}
use Rattle.match_plans.specs.NamingWires.{ShowsPartsOf}
use Rattle.match_plans.specs.Wired.{IsWiredBy}
use Rattle.chart_plans.specs.PlansWords.Plans.{Lists}
use Rattle.hubs.specs.SetupsWords.Wiring.{Wiring}
use Rattle.cli_matching.proofs.MatchReports.Onward.{if-ok}
use Rattle.cli_matching.proofs.match_reports.match_compiled.Goals as goal

pub returns-clause-prints : goal.returns-clause-prints
returns-clause-prints c =
    if-ok c.match_setup.result _ _
    (λ matching told is.
    let here = subst (λ (chart : Chart). IsMatchingOf chart.lines c.args.setup.now matching) c.chart-chart.ensures.value told in
    let wired = wired-of c.args.compiled.now.chart.lines c.args.setup.now matching here is in
    c.wired_setups_print_reports.ensures c.args.compiled.now.chart wired.0 c.args.setup.now c.chart-chart.ensures.compiled.sound
    wired.1.planned wired.1.wired)
    c.match_setup.ensures.told

pub returns-clause-begins : goal.returns-clause-begins
returns-clause-begins c =
    if-ok c.match_setup.result _ _
    (λ matching told is.
    let here = subst (λ (chart : Chart). IsMatchingOf chart.lines c.args.setup.now matching) c.chart-chart.ensures.value told in
    let wired = wired-of c.args.compiled.now.chart.lines c.args.setup.now matching here is in
    c.wired_setups_begin_reports.ensures c.args.compiled.now.chart wired.0 c.args.setup.now c.chart-chart.ensures.compiled.sound
    wired.1.planned wired.1.wired)
    c.match_setup.ensures.told

pub returns-clause-found : goal.returns-clause-found
returns-clause-found c =
    subst
    (λ (chart : Chart). IfOk c.match_setup.result
    (λ matching. (its : Lists) → IsWiredBy chart.lines c.args.setup.now its → IsMatched matching))
    c.chart-chart.ensures.value c.match_setup.ensures.found

pub returns-clause-shown : goal.returns-clause-shown
returns-clause-shown c =
    subst
    (λ (chart : Chart). IfOk c.match_setup.result
    (λ matching. (other : Wiring) (its : Lists) → ShowsPartsOf chart.lines c.args.setup.now other its
    → IsWiredBy chart.lines other (plan_told matching)))
    c.chart-chart.ensures.value c.match_setup.ensures.shown
