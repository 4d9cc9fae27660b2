-- The places of the counter groups in their row.
use Rattle.std.proofs.Common.{◌≡◌, ◌∙◌, ℕ, ◌+◌, ◌-◌, ◌*◌, ◌/◌, ◌%◌, ◌<◌, ◌≤◌, Bool, true, false, nat_eq, refl, sym, ap, subst, arith, if◌then◌else◌}
use Rattle.std.proofs.lemmas.Bool.Decides.{nat_tests}
use Rattle.capacity.specs.Capacities.{HasGroup, groups_of, standard}
use Rattle.capacity.specs.declared.group.CounterGroup.{CounterGroup}
use Rattle.match_plans.specs.Groups.{group_with, width_with}

-- there are 8 of each width
eight : (quarter : ℕ) → groups_of standard (width_with quarter) ≡ 8
eight quarter = by (nat_eq quarter 0) (nat_eq quarter 1) (nat_eq quarter 2)
  where
    by : (a b c : Bool) → groups_of standard (if a then 3 else if b then 4 else if c then 6 else 8) ≡ 8
    by true b c = refl
    by false true c = refl
    by false false true = refl
    by false false false = refl

-- each place of the row has a group of the machine
pub group-there : (place : ℕ) → HasGroup standard (group_with place)
group-there place = record {
  from = omega arith;
  to = subst (λ n. place % 8 + 1 ≤ n) (sym (eight (place / 8))) (omega arith);
}

-- and each group of the machine has a place
pub record HasPlace (group : CounterGroup) : Type 0 where
  pub place : ℕ
  pub within : place < 32
  pub is : group_with place ≡ group

placed : (group : CounterGroup) (quarter : ℕ) → quarter < 4 → width_with quarter ≡ group.width → 1 ≤ group.number → group.number ≤ 8 → HasPlace group
placed group quarter less wide from to =
    let place = 8 * quarter + (group.number - 1) in
    let of_quarter : place / 8 ≡ quarter = omega (arith, from, to) in
    let of_number : place % 8 + 1 ≡ group.number = omega (arith, from, to) in
    record {
      place = place;
      within = omega (arith, less, from, to);
      is =
          ap (λ (w : ℕ). let g : CounterGroup = record { width = w; number = place % 8 + 1 } in g) (ap width_with of_quarter ∙ wide)
          ∙ ap (λ (n : ℕ). let g : CounterGroup = record { width = group.width; number = n } in g) of_number;
    }

pub has-place : (group : CounterGroup) → HasGroup standard group → HasPlace group
has-place group there = by (nat_eq group.width 3) (nat_eq group.width 4) (nat_eq group.width 6) (nat_eq group.width 8) refl refl refl refl there.to
  where
    most : Bool → Bool → Bool → Bool → ℕ
    most a b c d = if a then 8 else if b then 8 else if c then 8 else if d then 8 else 0

    by : (a b c d : Bool) → nat_eq group.width 3 ≡ a → nat_eq group.width 4 ≡ b → nat_eq group.width 6 ≡ c → nat_eq group.width 8 ≡ d
        → group.number ≤ most a b c d → HasPlace group
    by true b c d e f g h to = placed group 0 (omega arith) (grind (arith, nat_tests, e)) there.from to
    by false true c d e f g h to = placed group 1 (omega arith) (grind (arith, nat_tests, f)) there.from to
    by false false true d e f g h to = placed group 2 (omega arith) (grind (arith, nat_tests, g)) there.from to
    by false false false true e f g h to = placed group 3 (omega arith) (grind (arith, nat_tests, h)) there.from to
    by false false false false e f g h to = let from = there.from in absurd (omega (arith, from, to))

-- none has more than 8 positions
pub width-most : (group : CounterGroup) → HasGroup standard group → group.width ≤ 8
width-most group there =
    let at = has-place group there in
    subst (λ (g : CounterGroup). g.width ≤ 8) at.is (by (nat_eq (at.place / 8) 0) (nat_eq (at.place / 8) 1) (nat_eq (at.place / 8) 2))
  where
    by : (a b c : Bool) → (if a then 3 else if b then 4 else if c then 6 else 8) ≤ 8
    by true b c = omega arith
    by false true c = omega arith
    by false false true = omega arith
    by false false false = omega arith
