use Rattle.std.proofs.Common.{◌∙◌, sym, refl, ◌-◌, arith, false, map}
use Rattle.std.proofs.lemmas.List.{get_or-map}
use Rattle.card_code.specs.Rows.{rows}
use Rattle.card_code.specs.declared.row.Row.TheVariants as row
use Rattle.storage_units.specs.Storage.{holds}
use Rattle.print_unit.proofs.Columns.{set_from-with, set_from-without}
use Rattle.explain_words.proofs.traces.storage.rows_held.Goals as goal

pub loop-place-preserved-then-holds : goal.loop-place-preserved-then-holds
loop-place-preserved-then-holds c =
    let i = c.loop-place.place - 1 in
    let held = map (λ row. holds c.args.storage.now row c.args.column) rows in
    let has = get_or-map (λ row. holds c.args.storage.now row c.args.column) rows i row.Zero false (omega arith) in
    set_from-with held i c.loop-place.place c.loop-place.held c.with_row-held.result (omega arith) (omega arith) refl
    (has ∙ sym c.holds.ensures ∙ c.if-holds.true) c.loop-place.invariant c.with_row-held.ensures

pub loop-place-preserved : goal.loop-place-preserved
loop-place-preserved c =
    let i = c.loop-place.place - 1 in
    let held = map (λ row. holds c.args.storage.now row c.args.column) rows in
    let has = get_or-map (λ row. holds c.args.storage.now row c.args.column) rows i row.Zero false (omega arith) in
    set_from-without held i c.loop-place.place c.loop-place.held (omega arith) (omega arith) refl
    (has ∙ sym c.holds.ensures ∙ c.if-holds.false) c.loop-place.invariant
