-- Punching a tape step by step: what one step punches and what the next punches are what both punch.
use Rattle.std.proofs.Common.{◌≡◌, ℕ, ◌⊎◌, inl, inr, Bool, true, false, ◌||◌, ◌&&◌, nat_eq, refl, sym, ap, ◌∙◌, arith}
use Rattle.std.proofs.lemmas.Bool.Decides.{nat_tests}
use Rattle.std.proofs.Math.Bool.{or-true}
use Rattle.wiring_lines.specs.JacksAndTape.HelperJacks.{Punches}
use Rattle.hubs.specs.SetupsWords.Tapes.{AddsStop, CarriageTape, has_stop}

-- no stop
pub punches-none : {R : ℕ → ℕ → Type 0} {tape : CarriageTape} → ((c l : ℕ) → R c l → ⊥) → Punches R tape tape
punches-none none = record {
  lines = refl;
  first = refl;
  overflow = refl;
  stops = λ c l. (λ has. inl has, λ either. elim either [ inl has ↦ has | inr by ↦ absurd (none c l by) ]);
}

-- two steps, one after the other
pub punches-both : {R S T : ℕ → ℕ → Type 0} {old mid new : CarriageTape} → ((c l : ℕ) → R c l → T c l) → ((c l : ℕ) → S c l → T c l)
    → ((c l : ℕ) → T c l → R c l ⊎ S c l) → Punches R old mid → Punches S mid new → Punches T old new
punches-both former latter split now next = record {
  lines = next.lines ∙ now.lines;
  first = next.first ∙ now.first;
  overflow = next.overflow ∙ now.overflow;
  stops = λ c l. (
    λ has. elim ((next.stops c l).0 has) [
      | inl before ↦ elim ((now.stops c l).0 before) [ inl had ↦ inl had | inr by ↦ inr (former c l by) ]
      | inr by ↦ inr (latter c l by)
    ],
    λ either. elim either [
      | inl had ↦ (next.stops c l).1 (inl ((now.stops c l).1 (inl had)))
      | inr by ↦ elim (split c l by) [
        | inl at ↦ (next.stops c l).1 (inl ((now.stops c l).1 (inr at)))
        | inr at ↦ (next.stops c l).1 (inr at)
      ]
    ],
  );
}

-- the same stops in other words
pub punches-as : {R S : ℕ → ℕ → Type 0} {old new : CarriageTape} → ((c l : ℕ) → R c l → S c l) → ((c l : ℕ) → S c l → R c l)
    → Punches R old new → Punches S old new
punches-as there back punched = record {
  lines = punched.lines;
  first = punched.first;
  overflow = punched.overflow;
  stops = λ c l. (
    λ has. elim ((punched.stops c l).0 has) [ inl had ↦ inl had | inr by ↦ inr (there c l by) ],
    λ either. elim either [
      | inl had ↦ (punched.stops c l).1 (inl had)
      | inr by ↦ (punched.stops c l).1 (inr (back c l by))
    ],
  );
}

-- one stop more
pub punches-one : {channel line : ℕ} {old new : CarriageTape} → AddsStop old new channel line
    → Punches (λ c l. (c ≡ channel) × (l ≡ line)) old new
punches-one {channel} {line} {old} {new} added = record {
  lines = added.lines;
  first = added.first;
  overflow = added.overflow;
  stops = λ c l. (
    λ has. onward c l (has_stop old c l) (nat_eq c channel && nat_eq l line) refl refl (sym (added.stops c l) ∙ has),
    back c l,
  );
}
  where
    onward : (c l : ℕ) (before here : Bool) → has_stop old c l ≡ before → (nat_eq c channel && nat_eq l line) ≡ here
        → (before || here) ≡ true → (has_stop old c l ≡ true) ⊎ ((c ≡ channel) × (l ≡ line))
    onward c l true here e f is = inl e
    onward c l false true e f is =
        let same : c ≡ channel = grind (arith, nat_tests, f) in
        let at : l ≡ line = grind (arith, nat_tests, f) in
        inr (same, at)
    onward c l false false e f is = cc

    back : (c l : ℕ) → (has_stop old c l ≡ true) ⊎ ((c ≡ channel) × (l ≡ line)) → has_stop new c l ≡ true
    back c l (inl had) = added.stops c l ∙ ap (λ b. b || (nat_eq c channel && nat_eq l line)) had
    back c l (inr at) =
        let same : c ≡ channel = at.0 in
        let line_same : l ≡ line = at.1 in
        let here : (nat_eq c channel && nat_eq l line) ≡ true = grind (arith, nat_tests, same, line_same) in
        added.stops c l ∙ ap (λ b. has_stop old c l || b) here ∙ or-true (has_stop old c l)
