-- The order in which totals take their groups, and the order of groups.
use Rattle.std.proofs.Common.{◌≡◌, ◌≢◌, refl, ap, ℕ, ◌≤◌, ltb, arith, Bool, true, false}
use Rattle.std.proofs.Common.{List, ◌⊎◌, inl, inr, ⊎_elim}
use Rattle.std.proofs.lemmas.Bool.Decides.{nat_tests, eqb_tells}
use Rattle.capacity.specs.declared.group.CounterGroup.{CounterGroup}
use Rattle.allocate.specs.Groups.{total_at, is_before, takes_before, is_lower}
use Rattle.chart_lines.specs.ChartsWords.Levels.{level_number}
use Rattle.chart_plans.specs.declared.wanted.total.Total.{Total}
use Rattle.chart_plans.proofs.PlansWords.CounterGroups.{same_group}

before-trans : (a b c : ℕ) (r s t : Bool) → (r ≡ true → s ≡ true → t ≡ true) → is_before a b r ≡ true
    → is_before b c s ≡ true → is_before a c t ≡ true
before-trans a b c true true t next one other = let last : t ≡ true = next refl refl in grind (arith, nat_tests)
before-trans a b c true false t next one other = grind (arith, nat_tests)
before-trans a b c false s t next one other = grind (arith, nat_tests)

before-trans_down : (a b c : ℕ) (r s t : Bool) → (r ≡ true → s ≡ true → t ≡ true) → is_before b a r ≡ true
    → is_before c b s ≡ true → is_before c a t ≡ true
before-trans_down a b c true true t next one other = let last : t ≡ true = next refl refl in grind (arith, nat_tests)
before-trans_down a b c true false t next one other = grind (arith, nat_tests)
before-trans_down a b c false s t next one other = grind (arith, nat_tests)

before-total : (a b : ℕ) (r s : Bool) → (a ≡ b → (r ≡ true) ⊎ (s ≡ true))
    → (is_before a b r ≡ true) ⊎ (is_before b a s ≡ true)
before-total a b r s next = grind (arith, nat_tests)

before-self : (a : ℕ) (r : Bool) → r ≡ false → is_before a a r ≡ false
before-self a r next = grind (arith, nat_tests)

ltb-total : (a b : ℕ) → a ≢ b → (ltb a b ≡ true) ⊎ (ltb b a ≡ true)
ltb-total a b differ = grind (arith, nat_tests)

ltb-trans : (a b c : ℕ) → ltb a b ≡ true → ltb b c ≡ true → ltb a c ≡ true
ltb-trans a b c one other = grind (arith, nat_tests)

ltb-self : (a : ℕ) → ltb a a ≡ false
ltb-self a = grind (arith, nat_tests)

-- a total that goes before one that goes before a third goes before the third
pub takes_before-trans : (totals : List Total) (i j k : ℕ) → takes_before totals i j ≡ true
    → takes_before totals j k ≡ true → takes_before totals i k ≡ true
takes_before-trans totals i j k before after =
    let first = total_at totals i in
    let second = total_at totals j in
    let third = total_at totals k in
    before-trans_down first.need second.need third.need _ _ _
    (before-trans (level_number first.level) (level_number second.level) (level_number third.level) _ _ _
    (before-trans first.line second.line third.line _ _ _ (ltb-trans i j k)))
    before after

-- of two totals one goes before the other
pub takes_before-total : (totals : List Total) (i j : ℕ) → i ≢ j
    → (takes_before totals i j ≡ true) ⊎ (takes_before totals j i ≡ true)
takes_before-total totals i j differ =
    let one = total_at totals i in
    let other = total_at totals j in
    before-total other.need one.need _ _
    (λ _. before-total (level_number one.level) (level_number other.level) _ _ (λ _. before-total one.line other.line _ _ (λ _. ltb-total i j differ)))

-- no total goes before itself
pub takes_before-self : (totals : List Total) (i : ℕ) → takes_before totals i i ≡ false
takes_before-self totals i =
    let one = total_at totals i in
    before-self one.need _ (before-self (level_number one.level) _ (before-self one.line _ (ltb-self i)))

-- a total needs no more than one that goes before it
pub takes_before-need : (totals : List Total) (i j : ℕ) → takes_before totals i j ≡ true
    → (total_at totals j).need ≤ (total_at totals i).need
takes_before-need totals i j before = by (total_at totals j).need (total_at totals i).need _ before
  where
    by : (a b : ℕ) (r : Bool) → is_before a b r ≡ true → a ≤ b
    by a b r before = grind (arith, nat_tests)

-- a group other than this one is lower, or this one is lower
pub is_lower-total : (one other : CounterGroup) → one ≢ other
    → (is_lower one other ≡ true) ⊎ (is_lower other one ≡ true)
is_lower-total one other differ =
    before-total one.width other.width _ _
    (λ width. ltb-total one.number other.number (λ number. differ (same_group one other width number)))

-- groups are the same, or one is lower than the other
pub same_or_lower : (one other : CounterGroup)
    → (one ≡ other) ⊎ (is_lower one other ≡ true) ⊎ (is_lower other one ≡ true)
same_or_lower one other =
    ⊎_elim
    (λ width.
    ⊎_elim (λ number. inl (same_group one other width.1 number.1))
    (λ number. inr (is_lower-total one other (λ same. number.1 (ap (λ (g : CounterGroup). g.number) same))))
    (eqb_tells one.number other.number))
    (λ width. inr (is_lower-total one other (λ same. width.1 (ap (λ (g : CounterGroup). g.width) same))))
    (eqb_tells one.width other.width)
