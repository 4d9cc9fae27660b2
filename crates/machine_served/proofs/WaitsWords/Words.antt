-- Words of waiting units, one unit that is waited for after another.
use Rattle.std.proofs.Common.{◌≡◌, ◌∙◌, sym, ℕ, ◌+◌, ◌<◌, ◌&&◌, ◌||◌, Bool, true, arith, inl, inr, ◌↔◌, subst}
use Rattle.std.specs.Prelude.{◌==◌}
use Rattle.std.proofs.lemmas.Bool.{and_parts, eq-eqb, eqb-true, or_cases, or_left, or_right, cases_eq}
use Rattle.net.specs.HubSets.{is_bit}
use Rattle.machine_served.specs.ServedWords.Orders.{unit_count}
use Rattle.machine_served.specs.ServedWords.Units.{IsUnit}
use Rattle.machine_served.specs.ServedWords.Waits.{WaitsFor}
use Rattle.hubs.specs.SetupsWords.Wiring.{Wiring}
use Rattle.machine_served.proofs.WaitsWords.Readers.{both_true}

-- the next unit that is waited for is noted
pub word_comes : (wiring : Wiring) (place unit other : ℕ) (new old : Bool) (waiting : ℕ) → unit < 45
    → new ≡ (old || (is_bit waiting unit && (other == place)))
    → (old ≡ true) ↔ ((other < place) × WaitsFor wiring (unit + 1) (other + 1))
    → (is_bit waiting unit ≡ true) ↔ (IsUnit unit_count (unit + 1) × WaitsFor wiring (unit + 1) (place + 1))
    → (new ≡ true) ↔ ((other < place + 1) × WaitsFor wiring (unit + 1) (other + 1))
word_comes wiring place unit other new old waiting low noted so_far awaited = (there, back) where
  there : new ≡ true → (other < place + 1) × WaitsFor wiring (unit + 1) (other + 1)
  there at = elim (or_cases old (is_bit waiting unit && (other == place)) (sym noted ∙ at)) [
    | inl was ↦ let known = so_far.0 was in (omega (arith, known.0), known.1)
    | inr both ↦
        let parts = and_parts (is_bit waiting unit) (other == place) both in
        let same : other ≡ place = eqb-true other place parts.1 in
        (omega (arith, same), subst (λ o. WaitsFor wiring (unit + 1) (o + 1)) (sym same) (awaited.0 parts.0).1)
  ]

  back : ((other < place + 1) × WaitsFor wiring (unit + 1) (other + 1)) → new ≡ true
  back waits = noted ∙ elim (cases_eq other place) [
    | inl same ↦
        or_right old _
        (both_true _ _
        (awaited.1 ((omega arith, omega (arith, low)), subst (λ o. WaitsFor wiring (unit + 1) (o + 1)) same waits.1))
        (eq-eqb other place same))
    | inr apart ↦ or_left old _ (so_far.1 (omega (arith, waits.0, apart), waits.1))
  ]

-- all units are noted
pub all_noted : (wiring : Wiring) (end unit other : ℕ) (bit : Bool) → end ≡ 45
    → (bit ≡ true) ↔ ((other < end) × WaitsFor wiring (unit + 1) (other + 1))
    → (bit ≡ true) ↔ (IsUnit unit_count (other + 1) × WaitsFor wiring (unit + 1) (other + 1))
all_noted wiring end unit other bit last so_far = (
  λ at. let known = so_far.0 at in ((omega arith, omega (arith, known.0, last)), known.1),
  λ waits. so_far.1 (omega (arith, waits.0.1, last), waits.1),
)
