use Rattle.std.proofs.Common.{arith, rules}
use Rattle.wiring_totals.proofs.TotalLevels.{missing-result, no_total_found, none-more}
use Rattle.wiring_totals.proofs.transfer.is_lowest.Goals as goal

pub returns-then-is_some : goal.returns-then-is_some
returns-then-is_some c = (
  λ wrong. cc,
  λ lowest.
      absurd (no_total_found c.args.chart.now.lines c.args.name _ _ c.loop-lower.lower c.total_at.result lowest
      c.loop-lower-test.true c.number-lower-end.ensures c.total_at.ensures c.if-is_some.ensures),
)

pub loop-lower-preserved : goal.loop-lower-preserved
loop-lower-preserved c =
    let missing = missing-result c.args.chart.now.lines c.args.name c.loop-lower.lower c.total_at.result c.total_at.ensures
    c.if-is_some.ensures in
    λ level number less.
    none-more c.args.chart.now.lines c.args.name 0 c.loop-lower.lower
    (λ l n above under. c.loop-lower.invariant l n under) missing level number (omega arith) less

pub returns : goal.returns
returns c = (
  λ is other number less. c.loop-lower.invariant other number (omega (arith, less, c.loop-lower-test.false, c.number-lower-end.ensures)),
  λ lowest. search rules,
)
