-- The plugged jacks of a setup, place by place.
use Rattle.std.proofs.Common.{◌≡◌, inl, inr, ℕ, ◌+◌, ◌<◌, ◌≤◌, List, ◌++◌, true, false, Some, refl, sym, ap, ◌∙◌, arith, true≢false, leb}
use Rattle.std.proofs.lemmas.Bool.{and_parts, leb-true}
use Rattle.std.proofs.lemmas.Option.{same_Some}
use Rattle.hubs.specs.HubTable.Ranges.{is_within}
use Rattle.hubs.specs.Jacks.{jack_place, is_jack_in_range}
use Rattle.hubs.specs.SetupsWords.Wiring.{Wiring, HasJack, is_plugged}
use Rattle.hubs.specs.declared.jack.Jack.{Jack}
use Rattle.hubs.specs.declared.jack.Jack.TheVariants as jacks
use Rattle.wire_chart.specs.WrittenText.{ended, jack_line, IsJackBefore}
use Rattle.wire_chart.specs.Writing.{GainsJacks, IsJackAt, IsJackBelow}
use Rattle.hubs.proofs.SetupsWords.WireLists.{below_or_at}
use Rattle.wire_chart.proofs.Gains.{gains_none, gains_one, gains_more, gains_same}

-- a plugged jack is one of the panel
pub plugged_in_range : (wiring : Wiring) (jack : Jack) → HasJack wiring jack → is_jack_in_range jack ≡ true
plugged_in_range wiring jack has = (and_parts (is_jack_in_range jack) _ has).0

-- a number that is tested to be in a range
pub within : (n last : ℕ) → is_within n last ≡ true → n ≤ last
within n last h = leb-true n last (and_parts (leb 1 n) (leb n last) h).1

-- a jack of the panel has one of its places
pub place_within : (jack : Jack) → is_jack_in_range jack ≡ true → jack_place jack < 368
place_within jacks.List h = omega arith
place_within (jacks.Total level) h = omega (arith, within level 4 h)
place_within (jacks.Head heading) h = omega (arith, within heading 3 h)
place_within (jacks.Link wheel) h = omega (arith, within wheel 120 h)
place_within (jacks.Suppress wheel) h = omega (arith, within wheel 120 h)
place_within (jacks.Symbol wheel) h = omega (arith, within wheel 120 h)

-- the jack of this place is plugged
pub jack_gained : (wiring : Wiring) (place : ℕ) (jack : Jack) (old new : List ℕ)
    → ((other : Jack) → is_jack_in_range other ≡ true → jack_place other ≡ place → Some jack ≡ Some other)
    → jack_place jack ≡ place → HasJack wiring jack → new ≡ old ++ ended (jack_line jack)
    → GainsJacks (IsJackAt wiring place) old new
jack_gained wiring place jack old new only at has gained =
    gains_one (IsJackAt wiring place) IsJackBefore jack_line old new jack gained
    (record { there = has; place_is = at })
    (λ other h. sym (same_Some jack other (only other (plugged_in_range wiring other h.there) h.place_is)))

-- the jack of this place is not plugged
pub jack_unplugged : (wiring : Wiring) (place : ℕ) (jack : Jack) (text : List ℕ)
    → ((other : Jack) → is_jack_in_range other ≡ true → jack_place other ≡ place → Some jack ≡ Some other)
    → is_plugged wiring jack ≡ false → GainsJacks (IsJackAt wiring place) text text
jack_unplugged wiring place jack text only unplugged =
    gains_none (IsJackAt wiring place) IsJackBefore jack_line text text refl
    (λ other h.
    let same : jack ≡ other = same_Some jack other (only other (plugged_in_range wiring other h.there) h.place_is) in
    true≢false (sym h.there ∙ ap (is_plugged wiring) (sym same) ∙ unplugged))

-- no place
pub no_places : (wiring : Wiring) (text : List ℕ) → GainsJacks (IsJackBelow wiring 0) text text
no_places wiring text =
    gains_none (IsJackBelow wiring 0) IsJackBefore jack_line text text refl (λ jack is. omega (arith, is.place_below))

-- one place more
pub place_more : (wiring : Wiring) (place : ℕ) (old mid new : List ℕ)
    → GainsJacks (IsJackBelow wiring place) old mid → GainsJacks (IsJackAt wiring place) mid new
    → GainsJacks (IsJackBelow wiring (place + 1)) old new
place_more wiring place old mid new first second =
    gains_more (IsJackBelow wiring place) (IsJackAt wiring place) (IsJackBelow wiring (place + 1))
    IsJackBefore jack_line old mid new first second
    (λ jack is. elim (below_or_at (jack_place jack) place is.place_below) [
      | inl below ↦ inl (record { there = is.there; place_below = below })
      | inr at ↦ inr (record { there = is.there; place_is = at })
    ])
    (λ jack is. record { there = is.there; place_below = omega (arith, is.place_below) })
    (λ jack is. record { there = is.there; place_below = omega (arith, is.place_is) })
    (λ one other is also. omega (arith, is.place_below, also.place_is))

-- all places
pub all_places : (wiring : Wiring) (place : ℕ) (old new : List ℕ) → 368 ≤ place
    → GainsJacks (IsJackBelow wiring place) old new → GainsJacks (HasJack wiring) old new
all_places wiring place old new last gains =
    gains_same (IsJackBelow wiring place) (HasJack wiring) IsJackBefore jack_line old new gains
    (λ jack has. record { there = has; place_below = omega (arith, last, place_within jack (plugged_in_range wiring jack has)) })
    (λ jack is. is.there)
