use Rattle.std.proofs.Common.{◌∙◌, sym, ap, drop, ℕ, ◌+◌}
use Rattle.fault_lists.proofs.Lefts.{all_emptied, emptied_at}
use Rattle.fault_lists.specs.Behind.{emptied_lines}
use Rattle.fault_slips.specs.LineMarks.Emptied.{emptied}
use Rattle.fault_lists.proofs.behind.emptied_lines.Goals as goal

pub loop-line-preserved : goal.loop-line-preserved
loop-line-preserved c =
    ap (emptied_lines (drop (c.loop-line.line-index + 1) c.args.lines.now))
    (c.in_ok-left-2.ensures ∙ ap (emptied c.from.result) c.as_slice.ensures.value
    ∙ ap (λ (line : ℕ). emptied line c.loop-line.left.items) c.from.ensures)
    ∙ sym (emptied_at c.args.lines.now c.loop-line.line-index _ c.loop-line.left.items c.loop-line-test.true)
    ∙ c.loop-line.invariant

pub returns : goal.returns
returns c =
    sym (all_emptied c.args.lines.now c.loop-line.line-index c.loop-line.left.items c.loop-line-test.false) ∙ c.loop-line.invariant
