-- Plugging step by step: what one step plugs and what the next plugs are what both plug.
use Rattle.std.proofs.Common.{◌≡◌, ℕ, ◌+◌, ◌<◌, ◌≤◌, ◌⊎◌, inl, inr, Bool, true, false, ◌||◌, refl, sym, ap, ◌∙◌, subst, arith}
use Rattle.std.proofs.lemmas.Bool.{cases_lt}
use Rattle.std.proofs.Math.Bool.{or-true}
use Rattle.hubs.specs.Jacks.{is_same_jack}
use Rattle.hubs.specs.SetupsWords.Wiring.{Wiring, HasJack, AddsJack, SameWires, is_plugged}
use Rattle.hubs.specs.declared.jack.Jack.{Jack}
use Rattle.hubs.proofs.JackLemmas.{same_jack, own_jack}
use Rattle.wiring_lines.specs.JacksAndTape.HelperJacks.{Plugs, Ranged, ranged}

-- one jack more
pub plugs-one : {plugged : Jack} {old new : Wiring} → AddsJack old new plugged → SameWires old new → new.tape ≡ old.tape
    → Plugs (λ each. each ≡ plugged) old new
plugs-one {plugged} {old} {new} adds wires tape = record {
  jacks = λ each. (λ has. onward each (is_plugged old each) (is_same_jack each plugged) refl refl (sym (adds each) ∙ has), back each);
  wires = wires;
  tape = tape;
}
  where
    onward : (each : Jack) (before same : Bool) → is_plugged old each ≡ before → is_same_jack each plugged ≡ same
        → (before || same) ≡ true → HasJack old each ⊎ (each ≡ plugged)
    onward each true same e f is = inl e
    onward each false true e f is = inr (same_jack each plugged f)
    onward each false false e f is = cc

    back : (each : Jack) → HasJack old each ⊎ (each ≡ plugged) → HasJack new each
    back each (inl had) = adds each ∙ ap (λ b. b || is_same_jack each plugged) had
    back each (inr same) =
        adds each ∙ ap (λ b. is_plugged old each || b) (ap (is_same_jack each) (sym same) ∙ own_jack each) ∙ or-true (is_plugged old each)

-- no jack
pub plugs-none : {R : Jack → Type 0} {setup : Wiring} → ((each : Jack) → R each → ⊥) → Plugs R setup setup
plugs-none none = record {
  jacks = λ each. (λ there. inl there, λ either. elim either [ inl there ↦ there | inr added ↦ absurd (none each added) ]);
  wires = λ exit to. (λ has. has, λ has. has);
  tape = refl;
}

-- two steps, one after the other
pub plugs-both : {R S T : Jack → Type 0} {old mid new : Wiring} → ((each : Jack) → R each → T each)
    → ((each : Jack) → S each → T each) → ((each : Jack) → T each → R each ⊎ S each) → Plugs R old mid → Plugs S mid new
    → Plugs T old new
plugs-both former latter split now next = record {
  jacks = λ each. (
    λ has. elim ((next.jacks each).0 has) [
      | inl before ↦ elim ((now.jacks each).0 before) [ inl had ↦ inl had | inr by ↦ inr (former each by) ]
      | inr by ↦ inr (latter each by)
    ],
    λ either. elim either [
      | inl had ↦ (next.jacks each).1 (inl ((now.jacks each).1 (inl had)))
      | inr by ↦ elim (split each by) [
        | inl at ↦ (next.jacks each).1 (inl ((now.jacks each).1 (inr at)))
        | inr at ↦ (next.jacks each).1 (inr at)
      ]
    ],
  );
  wires = λ exit to. (
    λ has. (now.wires exit to).0 ((next.wires exit to).0 has),
    λ has. (next.wires exit to).1 ((now.wires exit to).1 has),
  );
  tape = next.tape ∙ now.tape;
}

-- the same jacks in other words
pub plugs-as : {R S : Jack → Type 0} {old new : Wiring} → ((each : Jack) → R each → S each) → ((each : Jack) → S each → R each)
    → Plugs R old new → Plugs S old new
plugs-as there back added = record {
  jacks = λ each. (
    λ has. elim ((added.jacks each).0 has) [ inl had ↦ inl had | inr by ↦ inr (there each by) ],
    λ either. elim either [
      | inl had ↦ (added.jacks each).1 (inl had)
      | inr by ↦ (added.jacks each).1 (inr (back each by))
    ],
  );
  wires = added.wires;
  tape = added.tape;
}

-- the jacks of no wheel yet, where none comes before the end
pub ranged-none : {make : ℕ → Jack} {from end : ℕ} {setup : Wiring} → end ≤ from → Plugs (Ranged make from end) setup setup
ranged-none {make} {from} {end} empty = plugs-none none
  where
    none : (each : Jack) → Ranged make from end each → ⊥
    none each (ranged wheel above under) = omega (arith, above, under, empty)

-- the jack of one wheel more
pub ranged-more : {make : ℕ → Jack} {from end : ℕ} {old mid new : Wiring} → from ≤ end → Plugs (Ranged make from end) old mid
    → Plugs (λ each. each ≡ make end) mid new → Plugs (Ranged make from (end + 1)) old new
ranged-more {make} {from} {end} least so_far next = plugs-both former latter split so_far next
  where
    former : (each : Jack) → Ranged make from end each → Ranged make from (end + 1) each
    former each (ranged wheel above under) = ranged wheel above (omega (arith, under))

    latter : (each : Jack) → each ≡ make end → Ranged make from (end + 1) each
    latter each is = let P : Jack → Type 0 = Ranged make from (end + 1) in subst P (sym is) (ranged end least (omega arith))

    split : (each : Jack) → Ranged make from (end + 1) each → Ranged make from end each ⊎ (each ≡ make end)
    split each (ranged wheel above under) = by (cases_lt wheel end)
      where
        by : (wheel < end) ⊎ (end ≤ wheel) → Ranged make from end (make wheel) ⊎ (make wheel ≡ make end)
        by (inl less) = inl (ranged wheel above less)
        by (inr more) = let same : wheel ≡ end = omega (arith, under, more) in inr (ap make same)

-- the jacks of all wheels
pub ranged-all : {make : ℕ → Jack} {from end all : ℕ} {old new : Wiring} → Plugs (Ranged make from end) old new → end ≡ all
    → Plugs (Ranged make from all) old new
ranged-all {make} {from} {end} {all} {old} {new} added same =
    let P : ℕ → Type 0 = λ n. Plugs (Ranged make from n) old new in
    subst P same added
