use Rattle.std.proofs.Common.{get_or, refl}
use Rattle.fault_slips.proofs.LineMarks.Copying.{CopiedTo-all, CopiedTo-more}
use Rattle.fault_slips.proofs.line_marks.emptying.emptied.Goals as goal

pub loop-byte-preserved : goal.loop-byte-preserved
loop-byte-preserved c =
    rw (c.in_ok-extend_from_slice.ensures.items, c.kept.ensures, c.line_left-left.ensures)
    (CopiedTo-more c.args.line c.args.text.now c.loop-byte.copy.items c.loop-byte.left c.loop-byte.byte-index
    (get_or c.args.text.now c.loop-byte.byte-index 0) c.loop-byte-test.true refl c.loop-byte.invariant)

pub returns : goal.returns
returns c = CopiedTo-all c.args.line c.args.text.now c.loop-byte.copy.items c.loop-byte.left c.loop-byte.byte-index c.loop-byte-test.false c.loop-byte.invariant
