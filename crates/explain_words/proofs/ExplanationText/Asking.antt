-- Who asks for the wires of a way.
use Rattle.std.proofs.Common.{◌≡◌, ◌↔◌, ◌∙◌, sym, ap, refl, ℕ, ◌+◌, ◌-◌, ◌<◌, ◌≤◌, Bool, true, false, IsTrue, ◌||◌, List, [], ◌∷◌, length, Some, slice_get, slice_index_or, drop, take, arith, add-one}
use Rattle.std.proofs.Math.Seq.{drop-cons}
use Rattle.std.proofs.lemmas.Grind.{common_steps}
use Rattle.std.proofs.lemmas.List.{length-drop, take_all}
use Rattle.hubs.specs.declared.hub.Hub.{Hub}
use Rattle.hubs.specs.SetupsWords.Wiring.{HasWire, Wiring, is_wired}
use Rattle.hubs.proofs.SetupsWords.WiredLemmas.{HasWire-is_wired}
use Rattle.explain_words.specs.ExplanationText.Asked.{has_wire_of, leads_on}

-- a test by the wires is the test of the set
same_test : {P : Type 0} (one other : Bool) → IsTrue one ↔ P → IsTrue other ↔ P → one ≡ other
same_test true true a b = refl
same_test true false a b = sym (b.1 (a.0 refl))
same_test false true a b = a.1 (b.0 refl)
same_test false false a b = refl

pub wired : (wiring : Wiring) (hub next : Hub) (test : Bool) → IsTrue test ↔ HasWire wiring hub next → test ≡ is_wired wiring hub next
wired wiring hub next test decides = same_test test (is_wired wiring hub next) decides (HasWire-is_wired wiring hub next)

pub leads : (wiring : Wiring) (hub next : Hub) (others : List Hub) → Some next ≡ slice_get others 0
    → is_wired wiring hub next ≡ leads_on wiring hub others
leads wiring hub next [] first = absurd cc
leads wiring hub next (one ∷ others) first = let same : next ≡ one = cc in ap (is_wired wiring hub) same

-- the hubs behind a place
behind : (way : List Hub) (place : ℕ) → take (length way - place) (drop place way) ≡ drop place way
behind way place = let long = length-drop place way in take_all (length way - place) (drop place way) (omega (arith, long))

module _ (wiring : Wiring) (way : List Hub) (step : ℕ) (d : Hub) (whole : Bool) where
  parts : step < length way → drop step way ≡ slice_index_or way step d ∷ drop (step + 1) way
  parts inside = rw (add-one, drop-cons way step d)

  pub way_more : step < length way → has_wire_of wiring (drop step way) ≡ whole
      → leads_on wiring (slice_index_or way step d) (take (length way - (step + 1)) (drop (step + 1) way)) ≡ false → has_wire_of wiring (drop (step + 1) way) ≡ whole
  way_more inside before out =
      sym (ap (λ b. b || has_wire_of wiring (drop (step + 1) way)) (sym (ap (leads_on wiring (slice_index_or way step d)) (behind way (step + 1))) ∙ out))
      ∙ ap (λ (rest : List Hub). has_wire_of wiring rest) (sym (parts inside)) ∙ before

  pub way_found : step < length way → has_wire_of wiring (drop step way) ≡ whole
      → leads_on wiring (slice_index_or way step d) (take (length way - (step + 1)) (drop (step + 1) way)) ≡ true → true ≡ whole
  way_found inside before at =
      sym (ap (λ b. b || has_wire_of wiring (drop (step + 1) way)) (sym (ap (leads_on wiring (slice_index_or way step d)) (behind way (step + 1))) ∙ at))
      ∙ ap (λ (rest : List Hub). has_wire_of wiring rest) (sym (parts inside)) ∙ before

pub way_last : (wiring : Wiring) (way : List Hub) (step : ℕ) (whole : Bool) → length way ≤ step
    → has_wire_of wiring (drop step way) ≡ whole → false ≡ whole
way_last wiring way step whole end before =
    let none : drop step way ≡ [] = grind (arith, common_steps) in
    sym (ap (λ (rest : List Hub). has_wire_of wiring rest) none) ∙ before
