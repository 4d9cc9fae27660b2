use Rattle.chart_lines.specs.ChartsWords.Levels.{level_number}
use Rattle.std.proofs.Common.{arith, sym, ◌+◌}
use Rattle.wiring_totals.proofs.TotalLevels.{no_higher, none-more, total-found}
use Rattle.wiring_totals.proofs.transfer.next_higher.Goals as goal

pub returns-in-Some : goal.returns-in-Some
returns-in-Some c =
    record {
      higher = c.loop-higher.higher;
      total = total-found c.args.chart.now.lines c.args.name c.loop-higher.higher c.in-Some.number c.in-Some.ensures;
      above = omega (arith, c.loop-higher.auto.higher, c.number-higher.ensures);
      next = λ between other above under. c.loop-higher.invariant between other above under;
    }

pub loop-higher-preserved : goal.loop-higher-preserved
loop-higher-preserved c =
    λ level number above less.
    none-more c.args.chart.now.lines c.args.name (level_number c.args.level + 1) c.loop-higher.higher
    (λ l n over under. c.loop-higher.invariant l n (omega (arith, over)) under) (sym c.in_default.ensures) level number
    (omega (arith, above)) less

pub returns : goal.returns
returns c =
    no_higher c.args.chart.now.lines c.args.name (level_number c.args.level) c.loop-higher.higher c.loop-higher.invariant
    (omega (arith, c.loop-higher-test.false))
