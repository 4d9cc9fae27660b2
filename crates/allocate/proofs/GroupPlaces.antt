-- The counter groups of a machine in one row: the widest first, and each width by number. The place of a group is how
-- many groups stand before it.
use Rattle.std.proofs.Common.{◌≡◌, refl, ap, ◌∙◌, ℕ, ◌<◌, ◌≤◌, ◌+◌, ◌-◌, eqb, ltb, leb, cond, arith}
use Rattle.std.proofs.Common.{Bool, true, false, List, [], ◌∷◌, ◌⊎◌}
use Rattle.std.specs.List.{sum_by, filter}
use Rattle.std.proofs.lemmas.Bool.Decides.{nat_tests}
use Rattle.std.proofs.lemmas.Bool.{ltb-true, ltb-false}
use Rattle.std.proofs.lemmas.List.Sums.{sum_by-cons}
use Rattle.capacity.specs.Capacities.{Capacities, groups_of, groups_at_least, HasGroup}
use Rattle.capacity.specs.declared.group.CounterGroup.{CounterGroup}
use Rattle.chart_plans.specs.WantedWords.Totals.{class_of}
use Rattle.chart_plans.proofs.PlansWords.CounterGroups.{width-cases, same_group}

-- how many groups are wider than a width
abbrev pub wider : Capacities → ℕ → ℕ
wider machine width =
    cond (eqb width 8) 0
    (cond (eqb width 6) machine.eights
    (cond (eqb width 4) (machine.eights + machine.sixes) (machine.eights + machine.sixes + machine.fours)))

-- the place of a group in the row
abbrev pub place_of : Capacities → CounterGroup → ℕ
place_of machine group = wider machine group.width + (group.number - 1)

-- the group at a place of the row
abbrev pub group_of : Capacities → ℕ → CounterGroup
group_of machine place =
    cond (ltb place machine.eights) (record { width = 8; number = place + 1 })
    (cond (ltb place (machine.eights + machine.sixes)) (record { width = 6; number = place - machine.eights + 1 })
    (cond (ltb place (machine.eights + machine.sixes + machine.fours))
    (record { width = 4; number = place - (machine.eights + machine.sixes) + 1 })
    (record { width = 3; number = place - (machine.eights + machine.sixes + machine.fours) + 1 })))

sum-filter : (f : ℕ → ℕ) (p : ℕ → Bool) (x : ℕ) (xs : List ℕ)
    → sum_by f (filter p (x ∷ xs)) ≡ cond (p x) (f x) 0 + sum_by f (filter p xs)
sum-filter f p x xs = by (p x) refl
  where
    by : (b : Bool) → p x ≡ b → sum_by f (filter p (x ∷ xs)) ≡ cond (p x) (f x) 0 + sum_by f (filter p xs)
    by true e = rw e (sum_by-cons f x (filter p xs))
    by false e = rw e (omega arith)

-- the groups of a width or a greater one, width by width
at_least-is : (machine : Capacities) (least : ℕ) → groups_at_least machine least
    ≡ cond (leb least 8) machine.eights 0 + (cond (leb least 6) machine.sixes 0
    + (cond (leb least 4) machine.fours 0 + cond (leb least 3) machine.threes 0))
unfolding groups_at_least
at_least-is machine least =
    let f = groups_of machine in
    let p = leb least in
    sum-filter f p 8 (6 ∷ 4 ∷ 3 ∷ [])
    ∙ ap (λ n. cond (leb least 8) machine.eights 0 + n)
    (sum-filter f p 6 (4 ∷ 3 ∷ [])
    ∙ ap (λ n. cond (leb least 6) machine.sixes 0 + n)
    (sum-filter f p 4 (3 ∷ []) ∙ ap (λ n. cond (leb least 4) machine.fours 0 + n) (sum-filter f p 3 [] ∙ omega arith)))

-- a group of at least this width stands among the first, as many as there are of such widths
pub place_of-below : (machine : Capacities) (group : CounterGroup) (least : ℕ) → HasGroup machine group
    → least ≤ group.width → place_of machine group < groups_at_least machine least
place_of-below machine group least has enough =
    rw (at_least-is machine least) (by group.width group.number has.from has.to enough (width-cases machine group has))
  where
    by : (width number : ℕ) → 1 ≤ number → number ≤ groups_of machine width → least ≤ width
        → (width ≡ 8) ⊎ (width ≡ 6) ⊎ (width ≡ 4) ⊎ (width ≡ 3)
        → wider machine width + (number - 1)
        < cond (leb least 8) machine.eights 0 + (cond (leb least 6) machine.sixes 0
        + (cond (leb least 4) machine.fours 0 + cond (leb least 3) machine.threes 0))
    by width number from to enough cases = grind (arith, nat_tests)

-- two groups do not stand at one place
pub place_of-injective : (machine : Capacities) (one other : CounterGroup) → HasGroup machine one
    → HasGroup machine other → place_of machine one ≡ place_of machine other → one ≡ other
place_of-injective machine one other has_one has_other same =
    let width : one.width ≡ other.width =
    widths_same one.width one.number other.width other.number has_one.from has_one.to has_other.from has_other.to
    (width-cases machine one has_one) (width-cases machine other has_other) same in
    same_group one other width (numbers_same one.width one.number other.width other.number has_one.from has_other.from
    width same)
  where
    widths_same : (w m v n : ℕ) → 1 ≤ m → m ≤ groups_of machine w → 1 ≤ n → n ≤ groups_of machine v
        → (w ≡ 8) ⊎ (w ≡ 6) ⊎ (w ≡ 4) ⊎ (w ≡ 3) → (v ≡ 8) ⊎ (v ≡ 6) ⊎ (v ≡ 4) ⊎ (v ≡ 3)
        → wider machine w + (m - 1) ≡ wider machine v + (n - 1) → w ≡ v
    widths_same w m v n one_from one_to other_from other_to one_is other_is same = grind (arith, nat_tests)

    numbers_same : (w m v n : ℕ) → 1 ≤ m → 1 ≤ n → w ≡ v → wider machine w + (m - 1) ≡ wider machine v + (n - 1) → m ≡ n
    numbers_same w m v n one_from other_from width same =
        let wide : wider machine w ≡ wider machine v = ap (wider machine) width in omega arith

-- the group at a place among those of at least this width is one of them, and stands there
pub record IsAt (machine : Capacities) (least place : ℕ) (group : CounterGroup) : Type 0 where
  pub has : HasGroup machine group
  pub enough : least ≤ group.width
  pub place_is : place_of machine group ≡ place

pub group_of-at : (machine : Capacities) (least place : ℕ) → place < groups_at_least machine least
    → IsAt machine least place (group_of machine place)
group_of-at machine least place within =
    by (ltb place machine.eights) (ltb place (machine.eights + machine.sixes))
    (ltb place (machine.eights + machine.sixes + machine.fours)) refl refl refl (rw at_least-is at within)
  where
    by : (a b c : Bool) → ltb place machine.eights ≡ a → ltb place (machine.eights + machine.sixes) ≡ b
        → ltb place (machine.eights + machine.sixes + machine.fours) ≡ c
        → place < cond (leb least 8) machine.eights 0 + (cond (leb least 6) machine.sixes 0
        + (cond (leb least 4) machine.fours 0 + cond (leb least 3) machine.threes 0))
        → IsAt machine least place
        (cond a (record { width = 8; number = place + 1 })
        (cond b (record { width = 6; number = place - machine.eights + 1 })
        (cond c (record { width = 4; number = place - (machine.eights + machine.sixes) + 1 })
        (record { width = 3; number = place - (machine.eights + machine.sixes + machine.fours) + 1 }))))
    by true b c eight six four within =
        let low : place < machine.eights = ltb-true _ _ eight in
        record {
          has = record { from = omega arith; to = omega arith };
          enough = grind (arith, nat_tests);
          place_is = omega arith;
        }
    by false true c eight six four within =
        let high : machine.eights ≤ place = ltb-false _ _ eight in
        let low : place < machine.eights + machine.sixes = ltb-true _ _ six in
        record {
          has = record { from = omega arith; to = omega arith };
          enough = grind (arith, nat_tests);
          place_is = omega arith;
        }
    by false false true eight six four within =
        let high : machine.eights + machine.sixes ≤ place = ltb-false _ _ six in
        let low : place < machine.eights + machine.sixes + machine.fours = ltb-true _ _ four in
        record {
          has = record { from = omega arith; to = omega arith };
          enough = grind (arith, nat_tests);
          place_is = omega arith;
        }
    by false false false eight six four within =
        let high : machine.eights + machine.sixes + machine.fours ≤ place = ltb-false _ _ four in
        let few : place < machine.eights + machine.sixes + machine.fours + machine.threes = grind (arith, nat_tests) in
        record {
          has = record { from = omega arith; to = omega arith };
          enough = grind (arith, nat_tests);
          place_is = omega arith;
        }

-- a group that is wide enough is of the need's class or wider
pub class_of-le : (machine : Capacities) (group : CounterGroup) (need : ℕ) → HasGroup machine group
    → need ≤ group.width → class_of need ≤ group.width
class_of-le machine group need has enough = by group.width enough (width-cases machine group has)
  where
    by : (width : ℕ) → need ≤ width → (width ≡ 8) ⊎ (width ≡ 6) ⊎ (width ≡ 4) ⊎ (width ≡ 3) → class_of need ≤ width
    by width enough cases = grind (arith, nat_tests)

-- the class of a need of at most 8 positions is enough for it
pub le-class_of : (need : ℕ) → need ≤ 8 → need ≤ class_of need
le-class_of need fits = grind (arith, nat_tests)

-- no class is wider than 8
pub class_of-most : (need : ℕ) → class_of need ≤ 8
class_of-most need = grind (arith, nat_tests)

-- the class of a need of more than 8 positions is 8
pub class_of-two : (need : ℕ) → 8 < need → class_of need ≡ 8
class_of-two need two = grind (arith, nat_tests)

-- the greater need has the wider class
pub class_of-mono : (need other : ℕ) → need ≤ other → class_of need ≤ class_of other
class_of-mono need other less = grind (arith, nat_tests)

-- a class is one of the four widths
pub class_of-cases : (need : ℕ)
    → (class_of need ≡ 8) ⊎ (class_of need ≡ 6) ⊎ (class_of need ≡ 4) ⊎ (class_of need ≡ 3)
class_of-cases need = grind (arith, nat_tests)
