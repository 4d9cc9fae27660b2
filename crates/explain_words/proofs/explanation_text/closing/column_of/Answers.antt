use Rattle.std.proofs.Common.{◌-◌, arith}
use Rattle.print_unit.proofs.Columns.{set_from-with, set_from-without}
use Rattle.explain_words.proofs.explanation_text.closing.column_of.Goals as goal

pub loop-place-preserved-then-received-place : goal.loop-place-preserved-then-received-place
loop-place-preserved-then-received-place c =
    set_from-with c.args.received.now (c.loop-place.place - 1) c.loop-place.place c.loop-place.column c.with_row-column.result (omega arith)
    (omega arith) c.told-received c.if-received-place.true c.loop-place.invariant c.with_row-column.ensures

pub loop-place-preserved : goal.loop-place-preserved
loop-place-preserved c =
    set_from-without c.args.received.now (c.loop-place.place - 1) c.loop-place.place c.loop-place.column (omega arith) (omega arith)
    c.told-received c.if-received-place.false c.loop-place.invariant
