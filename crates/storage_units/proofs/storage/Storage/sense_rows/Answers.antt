use Rattle.std.proofs.Common.{◌≡◌, ◌∙◌, ◌+◌, ◌-◌, ◌*◌, ℕ, ap, arith, drop, refl, sym}
use Rattle.std.proofs.lemmas.List.{drop-drop, take_rest}
use Rattle.storage_units.specs.Fields.{state_of}
use Rattle.storage_units.proofs.AllRows.{rows-received}
use Rattle.storage_units.proofs.storage.Storage.sense_rows.Goals as goal

pub returns-then-self : goal.returns-then-self
returns-then-self c =
    let before = 16 * (c.self.inside.place - 1) in
    let sets = c.args.pictures.now in
    let index : 1620 + before ≡ 1620 + (c.self.inside.place - 1) * 16 + 1 - 1 = omega arith in
    rw (sym c.self.view_is)
    (rows-received c.args._cycle (state_of c.self.inside) sets _ c.self.inside.received _ c.if-self.true c.self.invariant.0 c.self.invariant.1
    (take_rest c.from.result.now before ∙ ap (drop before) (c.from.ensures.sets 1621 refl) ∙ drop-drop before 1620 sets
    ∙ ap (λ (k : ℕ). drop k sets) index) refl)
