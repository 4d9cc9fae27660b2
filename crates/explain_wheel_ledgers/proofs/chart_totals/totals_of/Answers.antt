use Rattle.std.proofs.Common.{◌∙◌, sym, ap}
use Rattle.explain_wheel_ledgers.proofs.Lists.{gathers_all, gathers_none, gathers_other, gathers_total}
use Rattle.explain_wheel_ledgers.specs.Totals.{totals_in}
use Rattle.explain_wheel_ledgers.proofs.chart_totals.totals_of.Goals as goal
use Rattle.explain_wheel_ledgers.proofs.chart_totals.totals_of.Goals.{in-Some+in_ok-push, in_default}

pub loop-line-init : goal.loop-line-init
loop-line-init c =
    gathers_none c.args.chart.now.lines c.args.plan.now c.lines-line-items.result.now c.new-totals.result.items c.new-totals.ensures.items

pub loop-line-preserved : goal.loop-line-preserved
loop-line-preserved c =
    elim c.match-total_on.branch [
      | in-Some+in_ok-push w ↦
          gathers_total c.args.chart.now.lines c.args.plan.now c.lines-line-items.result.now c.loop-line.line-index c.line-item.result
          c.loop-line.totals.items _ c.total_on.result w.in-Some.total c.loop-line-test.true c.line-item.is c.total_on.ensures.value
          c.total_on.ensures.range w.in-Some.is c.loop-line.invariant (ap (λ v. v.items) w.totals-is ∙ w.in_ok-push.ensures.items)
      | in_default w ↦
          gathers_other c.args.chart.now.lines c.args.plan.now c.lines-line-items.result.now c.loop-line.line-index c.line-item.result
          c.loop-line.totals.items _ c.loop-line-test.true c.line-item.is (sym c.total_on.ensures.value ∙ w.in_default.is)
          c.loop-line.invariant (ap (λ v. v.items) w.totals-is)
    ]

pub returns-clause-value : goal.returns-clause-value
returns-clause-value c =
    gathers_all c.args.chart.now.lines c.args.plan.now c.lines-line-items.result.now c.loop-line.line-index c.loop-line.totals.items
    c.loop-line-test.false c.loop-line.invariant
    ∙ ap (totals_in c.args.chart.now.lines c.args.plan.now) c.lines-line-items.ensures.value

pub returns-clause-accounts : goal.returns-clause-accounts
returns-clause-accounts c = c.loop-line.invariant.accounts
