use Rattle.std.proofs.Common.{Contains, List, arith, refl, subst, sym, true≢false}
use Rattle.chart_lines.specs.declared.charts.chart.Line.{Line}
use Rattle.match_plans.specs.PilotWires.{TellsPilot}
use Rattle.match_plans.proofs.Steps.{told-more}
use Rattle.match_plans.proofs.pilots.is_told.Goals as goal

pub loop-line-preserved : goal.loop-line-preserved
loop-line-preserved c = λ k line less here other its shows served tells.
    let listed : Contains c.args.chart.now.lines c.line-item.result =
    subst (λ (ls : List Line). Contains ls c.line-item.result) c.lines-line-items.ensures.value
    (c.loop-line.line-index, c.loop-line-test.true, sym c.line-item.is) in
    told-more
    (λ (each : Line). TellsPilot c.args.chart.now.lines c.args.amount.now.field.name each)
    c.lines-line-items.result.now c.loop-line.line-index c.line-item.result c.line-item.is
    (λ j each before there tell. c.loop-line.invariant j each before there other its shows served tell)
    (λ tell. true≢false (sym (c.if-tells_pilot.ensures.no other its shows listed served tell)))
    c.loop-line-test.true k line less here tells

pub returns-clause-no : goal.returns-clause-no
returns-clause-no c = λ other its line shows listed served tells.
    let (k, less, here) = subst (λ (ls : List Line). Contains ls line) (sym c.lines-line-items.ensures.value) listed in
    absurd
    (c.loop-line.invariant k line (omega (arith, less, c.loop-line-test.false)) here other its shows served tells)

pub returns-then-tells_pilot-clause-yes : goal.returns-then-tells_pilot-clause-yes
returns-then-tells_pilot-clause-yes c = λ other its shows yes.
    let listed : Contains c.args.chart.now.lines c.line-item.result =
    subst (λ (ls : List Line). Contains ls c.line-item.result) c.lines-line-items.ensures.value
    (c.loop-line.line-index, c.loop-line-test.true, sym c.line-item.is) in
    c.if-tells_pilot.ensures.yes other its shows listed refl
