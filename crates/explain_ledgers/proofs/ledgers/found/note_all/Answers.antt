use Rattle.std.proofs.Common.{◌∙◌, ap, not, set, None}
use Rattle.explain_ledgers.specs.LedgersWords.SoughtLines.{noted}
use Rattle.explain_ledgers.proofs.LedgersWords.Loops.{over-more}
use Rattle.explain_ledgers.proofs.LedgersWords.SoughtLines.{none-noted, nothing-placed}
use Rattle.explain_ledgers.proofs.ledgers.found.note_all.Goals as goal

pub returns-then-is_none : goal.returns-then-is_none
returns-then-is_none c = none-noted c.args.one.now c.args.sought.now (nothing-placed c.args.one.now.placed (c.is_none.ensures ∙ ap not c.if-is_none.true))

pub loop-line-preserved : goal.loop-line-preserved
loop-line-preserved c =
    ap (set c.loop-line.sought c.loop-line.line-index) c.note.ensures
    ∙ over-more (noted c.args.one.now) c.args.sought.now c.loop-line.sought c.loop-line.line-index
    (record { at = record { page = 0; line = 0 }; found = None }) c.loop-line-test.true c.loop-line.auto.sought c.loop-line.invariant
