-- The jacks of a difference, place by place.
use Rattle.std.proofs.Common.{◌≡◌, ℕ, ◌+◌, ◌<◌, ◌≤◌, inl, inr, Some, None, true, sym, subst, arith, leb}
use Rattle.std.proofs.lemmas.Bool.{and_parts, leb-true}
use Rattle.std.proofs.lemmas.Option.{none-some, same_Some}
use Rattle.hubs.specs.HubTable.Ranges.{is_within}
use Rattle.hubs.specs.Jacks.{is_jack_in_range, jack_place}
use Rattle.hubs.specs.declared.jack.Jack.{Jack}
use Rattle.hubs.specs.declared.jack.Jack.TheVariants as jacks
use Rattle.wiring_lines.specs.JacksAndTape.HelperJacks.{Plugs}
use Rattle.wiring_lines.proofs.JacksAndTape.Plugging.{plugs-as, plugs-both, plugs-none, plugs-one}
use Rattle.hubs.specs.SetupsWords.Wiring.{AddsJack, HasJack, SameWires, Wiring}
use Rattle.match_panels.specs.DifferencesWords.Differences.{LacksJack}
use Rattle.match_panels.specs.DifferencesWords.Helper.{LacksAt, LacksBefore}
use Rattle.match_panels.proofs.DifferencesWords.Stops.{below_or_at}

-- a plugged jack is one of the panel
pub plugged_in_range : (wiring : Wiring) (jack : Jack) → HasJack wiring jack → is_jack_in_range jack ≡ true
plugged_in_range wiring jack has = (and_parts (is_jack_in_range jack) _ has).0

-- and it has one of the panel's places
within : (n last : ℕ) → is_within n last ≡ true → n ≤ last
within n last h = leb-true n last (and_parts (leb 1 n) (leb n last) h).1

pub place_within : (jack : Jack) → is_jack_in_range jack ≡ true → jack_place jack < 368
place_within jacks.List h = omega arith
place_within (jacks.Total level) h = omega (arith, within level 4 h)
place_within (jacks.Head heading) h = omega (arith, within heading 3 h)
place_within (jacks.Link wheel) h = omega (arith, within wheel 120 h)
place_within (jacks.Suppress wheel) h = omega (arith, within wheel 120 h)
place_within (jacks.Symbol wheel) h = omega (arith, within wheel 120 h)

module _ (one other : Wiring) where
  -- no jack has the place
  pub at-nowhere : {place : ℕ} {setup : Wiring} → ((jack : Jack) → is_jack_in_range jack ≡ true → jack_place jack ≡ place → None ≡ Some jack)
      → Plugs (LacksAt one other place) setup setup
  at-nowhere none = plugs-none (λ jack at. none-some jack (none jack (plugged_in_range one jack at.lacks.there) at.placed))

  -- the jack at the place is not lacking
  pub at-none : {place : ℕ} {setup : Wiring} (jack : Jack)
      → ((each : Jack) → is_jack_in_range each ≡ true → jack_place each ≡ place → Some jack ≡ Some each)
      → (HasJack one jack → ¬ HasJack other jack → ⊥) → Plugs (LacksAt one other place) setup setup
  at-none jack found none = plugs-none (λ each at.
      let same : each ≡ jack = sym (same_Some jack each (found each (plugged_in_range one each at.lacks.there) at.placed)) in
      none (subst (HasJack one) same at.lacks.there) (subst (λ j. ¬ HasJack other j) same at.lacks.lacking))

  -- it is
  pub at-one : {place : ℕ} {old new : Wiring} (jack : Jack) → jack_place jack ≡ place
      → ((each : Jack) → is_jack_in_range each ≡ true → jack_place each ≡ place → Some jack ≡ Some each)
      → HasJack one jack → ¬ HasJack other jack → AddsJack old new jack → SameWires old new → new.tape ≡ old.tape
      → Plugs (LacksAt one other place) old new
  at-one jack placed found has lacking added wires tape =
      plugs-as (λ each same. subst (LacksAt one other _) (sym same) (record { placed = placed; lacks = record { there = has; lacking = lacking } }))
      (λ each at. sym (same_Some jack each (found each (plugged_in_range one each at.lacks.there) at.placed)))
      (plugs-one added wires tape)

  -- no place yet, one place more, all places
  pub places-none : {setup : Wiring} → Plugs (LacksBefore one other 0) setup setup
  places-none = plugs-none (λ jack at. omega (arith, at.placed))

  pub places-more : {place : ℕ} {old mid new : Wiring} → Plugs (LacksBefore one other place) old mid → Plugs (LacksAt one other place) mid new
      → Plugs (LacksBefore one other (place + 1)) old new
  places-more {place} so_far next =
      plugs-both (λ jack at. record { placed = omega (arith, at.placed); lacks = at.lacks })
      (λ jack at. record { placed = omega (arith, at.placed); lacks = at.lacks })
      (λ jack at. elim (below_or_at (jack_place jack) place at.placed) [
        | inl less ↦ inl (record { placed = less; lacks = at.lacks })
        | inr here ↦ inr (record { placed = here; lacks = at.lacks })
      ]) so_far next

  pub places-all : {place : ℕ} {old new : Wiring} → 368 ≤ place → Plugs (LacksBefore one other place) old new
      → Plugs (LacksJack one other) old new
  places-all {place} last plugged =
      plugs-as (λ jack at. at.lacks)
      (λ jack lacks. record {
        placed = omega (arith, last, place_within jack (plugged_in_range one jack lacks.there));
        lacks = lacks;
      }) plugged
