use Rattle.std.proofs.Common.{arith, length, ap}
use Rattle.std.proofs.lemmas.Result.{err_from_is_err_and}
use Rattle.chart_text.proofs.LineSteps.{same_more, fault_more, same_at_end, same_without_end}
use Rattle.chart_text.proofs.read.read_lines.Goals as goal

pub returns-in_err-take_line : goal.returns-in_err-take_line
returns-in_err-take_line c =
    let p = err_from_is_err_and c.from_residual-in_err-take_line.result c.from_residual-in_err-take_line.ensures.1 in
    rw (p.1, p.2)
    (fault_more _ _ _ _ _ _ _ _ _ _ _ c.in-Some.ensures.first c.in_ok-content.ensures c.in_err-take_line.ensures.refused
    c.loop-line.invariant.same)

pub loop-line-preserved : goal.loop-line-preserved
loop-line-preserved c = record {
  same = same_more _ _ _ _ _ _ _ _ _ _ _ _ _ c.in-Some.ensures.first c.in_ok-content.ensures c.in_ok-take_line.ensures.taken
      c.loop-line.invariant.same;
  rising = c.in_ok-take_line.ensures.rising c.loop-line.invariant.rising;
  placed = c.in_ok-take_line.ensures.placed c.loop-line.invariant.placed;
  numbered = omega (arith, ap length c.in-Some.ensures.first);
}

pub returns-in-Some-end : goal.returns-in-Some-end
returns-in-Some-end c =
    same_at_end _ _ _ _ _ _ _ _ c.new.result c.in_default.ensures.none c.in-Some-end.is c.new.ensures.version c.new.ensures.lines
    c.new.ensures.coupled c.new.ensures.end c.loop-line.invariant.same

pub returns-in-None : goal.returns-in-None
returns-in-None c = same_without_end _ _ _ _ _ _ _ c.in_default.ensures.none c.in-None.is c.loop-line.invariant.same
