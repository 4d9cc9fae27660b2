-- Passes over a table: that fills nothing, that fills one place, and one behind another.
use Rattle.std.proofs.Common.{⊎_elim, ◌⊎◌, inl, inr, ◌≡◌, ◌≢◌, ◌∙◌, sym, ap, subst, refl, arith, ℕ, ◌+◌, ◌<◌, ◌≤◌, Bool, true, false, ◌||◌, List, [], ◌∷◌, length, slice_set}
use Rattle.std.specs.Prelude.{if◌then◌else◌, nat_eq}
use Rattle.std.proofs.lemmas.Bool.{cases_eq, cases_lt, false≢true}
use Rattle.std.proofs.lemmas.Bool.Decides.{nat_tests}
use Rattle.std.proofs.lemmas.Grind.{common_steps}
use Rattle.std.proofs.lemmas.List.{get_or-set_same, get_or-set_other}
use Rattle.std.proofs.lemmas.List.Sums.{sum_by-set, sum_by-cons}
use Rattle.explain_wheels.specs.WaysWords.Tables.{at, missing, IsPass, IsLedAt}

-- 1 for 0, and 0 for more
count_of : ℕ → ℕ
count_of n = if nat_eq n 0 then 1 else 0

zero_counts : (n : ℕ) → n ≡ 0 → count_of n ≡ 1
unfolding count_of
zero_counts n is = grind (arith, nat_tests)

more_counts : (n : ℕ) → 1 ≤ n → count_of n ≡ 0
unfolding count_of
more_counts n is = grind (arith, nat_tests)

count_at_most : (n : ℕ) → count_of n ≤ 1
unfolding count_of
count_at_most n = grind (arith, nat_tests)

-- a place that was 0 is filled: one is missing less
missing-set : (steps : List ℕ) (to number : ℕ) → to < length steps → at steps to ≡ 0 → 1 ≤ number
    → missing (slice_set steps to number) + 1 ≡ missing steps
unfolding missing count_of
missing-set steps to number inside empty filled =
    let sums = sum_by-set count_of steps to number 0 inside in
    let one = zero_counts (at steps to) empty in
    let none = more_counts number filled in
    omega (arith, sums, one, none)

-- no more places are 0 than there are
pub missing-length : (steps : List ℕ) → missing steps ≤ length steps
unfolding missing count_of
missing-length [] = omega arith
missing-length (n ∷ steps) =
    let cons = sum_by-cons count_of n steps in
    let before = missing-length steps in
    let here = count_at_most n in
    omega (arith, cons, before, here)

-- a pass that fills nothing
pub IsPass-none : (level : ℕ) (Led : ℕ → Type 0) (steps : List ℕ) → ((h : ℕ) → Led h → 1 ≤ at steps h)
    → IsPass level Led steps steps false
IsPass-none level Led steps done = record {
  long = refl;
  kept = λ h some. refl;
  gained = λ h empty some. absurd (omega (arith, empty, some));
  done = done;
  some = λ never. absurd (false≢true never);
  none = λ _. refl;
}

-- a pass that fills one place
pub IsPass-one : (level to : ℕ) (Led : ℕ → Type 0) (steps : List ℕ) → to < length steps → at steps to ≡ 0 → Led to
    → ((h : ℕ) → Led h → h ≡ to) → IsPass level Led steps (slice_set steps to (level + 1)) true
IsPass-one level to Led steps inside empty led only = record {
  long = grind (arith, common_steps);
  kept = λ h some. others h (λ same. absurd (omega (arith, some, empty, ap (at steps) same)));
  gained = λ h was some. elim (cases_eq h to) [
    | inl same ↦ (ap (at (slice_set steps to (level + 1))) same ∙ here, subst Led (sym same) led)
    | inr other ↦ absurd (omega (arith, was, some, others h other))
  ];
  done = λ h leads. let same = ap (at (slice_set steps to (level + 1))) (only h leads) in omega (arith, same, here);
  some = λ _. let less = missing-set steps to (level + 1) inside empty (omega arith) in omega (arith, less);
  none = λ never. absurd (false≢true (sym never));
} where
  here : at (slice_set steps to (level + 1)) to ≡ level + 1
  here = get_or-set_same steps to (level + 1) 0 inside

  others : (h : ℕ) → h ≢ to → at (slice_set steps to (level + 1)) h ≡ at steps h
  others h other = get_or-set_other steps to h (level + 1) 0 other

-- a pass where the same is led to in other words
pub IsPass-as : (level : ℕ) (Led Same : ℕ → Type 0) (old new : List ℕ) (added : Bool) → ((h : ℕ) → Led h → Same h)
    → ((h : ℕ) → Same h → Led h) → IsPass level Led old new added → IsPass level Same old new added
IsPass-as level Led Same old new added there back pass = record {
  long = pass.long;
  kept = pass.kept;
  gained = λ h was some. let found = pass.gained h was some in (found.0, there h found.1);
  done = λ h same. pass.done h (back h same);
  some = pass.some;
  none = pass.none;
}

-- a pass behind another one
pub IsPass-then : (level : ℕ) (One Other : ℕ → Type 0) (old now new : List ℕ) (first second added : Bool)
    → added ≡ (first || second) → IsPass level One old now first → IsPass level Other now new second
    → IsPass level (λ h. One h ⊎ Other h) old new added
IsPass-then level One Other old now new first second added is one other = record {
  long = other.long ∙ one.long;
  kept = λ h some. let before = one.kept h some in
      let behind = other.kept h (omega (arith, before, some)) in behind ∙ before;
  gained = λ h was some. by h was some (cases_eq (at now h) 0);
  done = λ h led. ⊎_elim
      (λ led. let some = one.done h led in let kept = other.kept h some in omega (arith, some, kept))
      (λ led. other.done h led)
      led;
  some = λ yes. fewer first second (sym is ∙ yes) one.some one.none other.some other.none;
  none = λ no. let both = neither first second added is no in other.none both.1 ∙ one.none both.0;
} where
  by : (h : ℕ) → at old h ≡ 0 → 1 ≤ at new h → (at now h ≡ 0) ⊎ (at now h ≢ 0) → (at new h ≡ level + 1) × (One h ⊎ Other h)
  by h was some (inl empty) = let found = other.gained h empty some in (found.0, inr found.1)
  by h was some (inr filled) =
      let there : 1 ≤ at now h = omega (arith, filled) in
      let found = one.gained h was there in
      (other.kept h there ∙ found.0, inl found.1)

  neither : (a b c : Bool) → c ≡ (a || b) → c ≡ false → (a ≡ false) × (b ≡ false)
  neither true b c e f = absurd (false≢true (sym f ∙ e))
  neither false b c e f = (refl, sym e ∙ f)

  fewer : (a b : Bool) → (a || b) ≡ true → (a ≡ true → missing now + 1 ≤ missing old) → (a ≡ false → now ≡ old)
      → (b ≡ true → missing new + 1 ≤ missing now) → (b ≡ false → new ≡ now) → missing new + 1 ≤ missing old
  fewer true true e f g h i = let one = f refl in let other = h refl in omega (arith, one, other)
  fewer true false e f g h i = let one = f refl in let same = ap missing (i refl) in omega (arith, one, same)
  fewer false true e f g h i = let same = ap missing (g refl) in let other = h refl in omega (arith, same, other)
  fewer false false e f g h i = absurd (false≢true e)

-- one hub further in a level: it stands there and leads on, or it doesn't stand there
pub IsPass-from : (level n : ℕ) (Leads : ℕ → ℕ → Type 0) (start steps now : List ℕ) (first second added : Bool) → 1 ≤ level
    → at steps n ≡ level → added ≡ (first || second) → IsPass level (IsLedAt Leads level n start) start steps first
    → IsPass level (Leads n) steps now second → IsPass level (IsLedAt Leads level (n + 1) start) start now added
IsPass-from level n Leads start steps now first second added some stands is pass next =
    IsPass-as level (λ h. IsLedAt Leads level n start h ⊎ Leads n h) (IsLedAt Leads level (n + 1) start) start now added there back
    (IsPass-then level (IsLedAt Leads level n start) (Leads n) start steps now first second added is pass next) where
      before : at start n ≡ level
      before = elim (cases_eq (at start n) 0) [
        | inl empty ↦ let found = pass.gained n empty (omega (arith, some, stands)) in
            let full = found.0 in absurd (omega (arith, full, stands))
        | inr filled ↦ let kept = pass.kept n (omega (arith, filled)) in sym kept ∙ stands
      ]

      there : (h : ℕ) → IsLedAt Leads level n start h ⊎ Leads n h → IsLedAt Leads level (n + 1) start h
      there h (inl led) = let low = led.low in
          record { from = led.from; low = omega (arith, low); stands = led.stands; leads = led.leads }
      there h (inr leads) = record { from = n; low = omega arith; stands = before; leads = leads }

      back : (h : ℕ) → IsLedAt Leads level (n + 1) start h → IsLedAt Leads level n start h ⊎ Leads n h
      back h led = elim (cases_lt led.from n) [
        | inl low ↦ inl (record { from = led.from; low = low; stands = led.stands; leads = led.leads })
        | inr high ↦
            let below = led.low in
            let same : led.from ≡ n = omega (arith, below, high) in
            inr (subst (λ (m : ℕ). Leads m h) same led.leads)
      ]

pub IsPass-past : (level n : ℕ) (Leads : ℕ → ℕ → Type 0) (start steps : List ℕ) (added : Bool) → 1 ≤ level
    → at steps n ≢ level → IsPass level (IsLedAt Leads level n start) start steps added
    → IsPass level (IsLedAt Leads level (n + 1) start) start steps added
IsPass-past level n Leads start steps added some other pass =
    IsPass-as level (IsLedAt Leads level n start) (IsLedAt Leads level (n + 1) start) start steps added there back pass where
      there : (h : ℕ) → IsLedAt Leads level n start h → IsLedAt Leads level (n + 1) start h
      there h led = let low = led.low in
          record { from = led.from; low = omega (arith, low); stands = led.stands; leads = led.leads }

      back : (h : ℕ) → IsLedAt Leads level (n + 1) start h → IsLedAt Leads level n start h
      back h led = elim (cases_lt led.from n) [
        | inl low ↦ record { from = led.from; low = low; stands = led.stands; leads = led.leads }
        | inr high ↦
            let below = led.low in
            let same : led.from ≡ n = omega (arith, below, high) in
            let stands : at start n ≡ level = ap (at start) (sym same) ∙ led.stands in
            let kept = pass.kept n (omega (arith, stands, some)) in
            absurd (other (kept ∙ stands))
      ]
