-- The lowest free group, found width by width and number by number.
use Rattle.std.proofs.Common.{◌≡◌, ◌≢◌, refl, ◌∙◌, ⊎_elim, ℕ, ◌<◌, ◌≤◌, ◌+◌, ltb, arith}
use Rattle.std.proofs.Common.{true, List, [], ◌∷◌, get_or, ◌⊎◌}
use Rattle.std.proofs.lemmas.Bool.Decides.{nat_tests, eqb_tells}
use Rattle.capacity.specs.Capacities.{Capacities, HasGroup}
use Rattle.capacity.specs.declared.group.CounterGroup.{CounterGroup}
use Rattle.allocate.specs.Groups.{is_before, IsLowestFree}
use Rattle.allocate.specs.HelperTaking.{IsLowestNumber, IsWidthTaken, AreAllTaken}
use Rattle.chart_plans.proofs.PlansWords.CounterGroups.{same_group}
use Rattle.chart_plans.proofs.PlansWords.CounterGroups.{width-cases}

-- a number more is taken
pub taken-more : (width number : ℕ) (IsTaken : CounterGroup → Type 0)
    → ((n : ℕ) → 1 ≤ n → n < number → IsTaken (record { width = width; number = n }))
    → IsTaken (record { width = width; number = number }) → (n : ℕ) → 1 ≤ n → n < number + 1
    → IsTaken (record { width = width; number = n })
taken-more width number IsTaken below here n from to =
    ⊎_elim
    (λ same. let is : n ≡ number = same.1 in rw is here)
    (λ differs. below n from (let differ : n ≢ number = differs.1 in omega arith))
    (eqb_tells n number)

-- the widths of counter groups, the narrowest first
abbrev pub rising : List ℕ
rising = 3 ∷ 4 ∷ 6 ∷ 8 ∷ []

-- the groups of the first widths are taken where they are wide enough
abbrev pub AreTakenBelow : ℕ → ℕ → Capacities → (CounterGroup → Type 0) → Type 0
AreTakenBelow bound need machine IsTaken =
    (k : ℕ) → k < bound → need ≤ get_or rising k 0 → IsWidthTaken (get_or rising k 0) machine IsTaken

-- a group is taken if its width is one of the first
taken-at_width : (need : ℕ) (machine : Capacities) (IsTaken : CounterGroup → Type 0) (bound k : ℕ)
    (group : CounterGroup) → AreTakenBelow bound need machine IsTaken → k < bound → group.width ≡ get_or rising k 0
    → HasGroup machine group → need ≤ group.width → IsTaken group
taken-at_width need machine IsTaken bound k group below within width has enough =
    let there = below k within (rw (← width) enough) group.number has.from (rw (← width) has.to) in
    rw (same_group group (record { width = get_or rising k 0; number = group.number }) width refl) there

-- if each width is taken where it is wide enough, then all groups are that are wide enough
pub all_taken-by_widths : (need : ℕ) (machine : Capacities) (IsTaken : CounterGroup → Type 0)
    → AreTakenBelow 4 need machine IsTaken → AreAllTaken need machine IsTaken
all_taken-by_widths need machine IsTaken below group has enough =
    let at = λ (k : ℕ) (within : k < 4) (width : group.width ≡ get_or rising k 0).
    taken-at_width need machine IsTaken 4 k group below within width has enough in
    ⊎_elim (at 3 (omega arith))
    (⊎_elim (at 2 (omega arith)) (⊎_elim (at 1 (omega arith)) (at 0 (omega arith))))
    (width-cases machine group has)

index-cases : (k : ℕ) → k < 4 → (k ≡ 0) ⊎ (k ≡ 1) ⊎ (k ≡ 2) ⊎ (k ≡ 3)
index-cases k within = grind arith

-- a narrower width of a machine stands before a width in the list
earlier-width : (index width : ℕ) → index < 4 → (width ≡ 8) ⊎ (width ≡ 6) ⊎ (width ≡ 4) ⊎ (width ≡ 3)
    → width < get_or rising index 0 → (k : ℕ) × (k < index) × (width ≡ get_or rising k 0)
earlier-width index width within cases less =
    ⊎_elim (λ zero. absurd (let low : width < 3 = rw zero at less in grind arith))
    (⊎_elim (λ one. let low : width < 4 = rw one at less in
    ⊎_elim (λ w. absurd (omega arith)) (⊎_elim (λ w. absurd (omega arith)) (⊎_elim (λ w. absurd (omega arith))
    (λ w. (0, omega arith, w)))) cases)
    (⊎_elim (λ two. let low : width < 6 = rw two at less in
    ⊎_elim (λ w. absurd (omega arith)) (⊎_elim (λ w. absurd (omega arith)) (⊎_elim (λ w. (1, omega arith, w))
    (λ w. (0, omega arith, w)))) cases)
    (λ three. let low : width < 8 = rw three at less in
    ⊎_elim (λ w. absurd (omega arith)) (⊎_elim (λ w. (2, omega arith, w)) (⊎_elim (λ w. (1, omega arith, w))
    (λ w. (0, omega arith, w)))) cases)))
    (index-cases index within)

-- the lowest number of a width is the lowest group where all narrower ones are taken that are wide enough
pub lowest-by_width : (need : ℕ) (machine : Capacities) (IsTaken : CounterGroup → Type 0) (index : ℕ)
    (group : CounterGroup) → index < 4 → AreTakenBelow index need machine IsTaken → need ≤ get_or rising index 0
    → IsLowestNumber (get_or rising index 0) machine IsTaken group → IsLowestFree need machine IsTaken group
lowest-by_width need machine IsTaken index group within below enough found =
    record {
      there = found.there;
      enough = rw found.width_is enough;
      free = found.free;
      lowest =
          λ other has wide lower.
          ⊎_elim
          (λ narrower.
          let narrow : other.width < get_or rising index 0 = rw found.width_is at narrower in
          let earlier = earlier-width index other.width within (width-cases machine other has) narrow in
          taken-at_width need machine IsTaken index earlier.0 other below earlier.1 earlier.2 has wide)
          (λ same.
          let width : other.width ≡ get_or rising index 0 = same.0 ∙ found.width_is in
          rw (same_group other (record { width = get_or rising index 0; number = other.number }) width refl)
          (found.lowest other.number has.from same.1))
          (lower-cases other.width group.width other.number group.number lower);
    }
  where
    lower-cases : (w v m n : ℕ) → is_before w v (ltb m n) ≡ true → (w < v) ⊎ ((w ≡ v) × (m < n))
    lower-cases w v m n lower = grind (arith, nat_tests)
