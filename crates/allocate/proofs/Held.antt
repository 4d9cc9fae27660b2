-- The groups that counters have, and those that totals take by the rule.
use Rattle.std.proofs.Common.{◌≡◌, ◌≢◌, ◌∙◌, refl, sym, ap, ⊎_elim, ℕ, ◌<◌, ◌≤◌, ltb, true, ◌⊎◌, inl, inr, arith}
use Rattle.std.proofs.lemmas.Bool.Decides.{nat_tests}
use Rattle.capacity.specs.Capacities.{Capacities, HasGroup}
use Rattle.capacity.specs.declared.group.CounterGroup.{CounterGroup}
use Rattle.chart_plans.specs.PlansWords.Counters.{HasCounter, IsEnoughFor, IsGroupOf, SharesGroup}
use Rattle.chart_plans.specs.declared.plans.counter.TotalCounter.{TotalCounter}
use Rattle.chart_plans.specs.declared.plans.counter.TotalCounter.TheVariants as of
use Rattle.chart_plans.proofs.PlansWords.CounterGroups.{width-cases}
use Rattle.chart_plans.specs.WantedWords.Totals.{class_of}
use Rattle.allocate.specs.Groups.{IsLowestFree, Takes, is_before}
use Rattle.allocate.proofs.GroupPlaces.{class_of-le, class_of-most}
use Rattle.allocate.proofs.Orders.{same_or_lower}

-- the group of a counter, or the lower one of two
abbrev pub lower_group : TotalCounter → CounterGroup
lower_group (of.Single group) = group
lower_group (of.Coupled lower upper) = lower

-- the group of a counter, or the upper one of two
abbrev pub upper_group : TotalCounter → CounterGroup
upper_group (of.Single group) = group
upper_group (of.Coupled lower upper) = upper

-- these are groups of the counter
pub has-lower : (counter : TotalCounter) → IsGroupOf counter (lower_group counter)
has-lower (of.Single group) = refl
has-lower (of.Coupled lower upper) = inl refl

pub has-upper : (counter : TotalCounter) → IsGroupOf counter (upper_group counter)
has-upper (of.Single group) = refl
has-upper (of.Coupled lower upper) = inr refl

-- counters that have one group in common share it
pub shares : (counter other : TotalCounter) (group : CounterGroup) → IsGroupOf counter group → IsGroupOf other group → SharesGroup counter other
shares counter (of.Single its) group has also = rw (sym also) at has
shares counter (of.Coupled lower upper) group has (inl also) = inl (rw (sym also) at has)
shares counter (of.Coupled lower upper) group has (inr also) = inr (rw (sym also) at has)

-- a group of a counter is one of the same counter
pub group-of-same : (counter other : TotalCounter) (group : CounterGroup) → counter ≡ other → IsGroupOf counter group → IsGroupOf other group
group-of-same counter other group same has = rw same at has

-- A group that two counters have in common.
pub record IsShared (counter other : TotalCounter) : Type 0 where
  pub group : CounterGroup
  pub has : IsGroupOf counter group
  pub also : IsGroupOf other group

pub shared-of : (counter other : TotalCounter) → SharesGroup counter other → IsShared counter other
shared-of counter (of.Single its) has = record { group = its; has = has; also = refl }
shared-of counter (of.Coupled lower upper) (inl has) = record { group = lower; has = has; also = inl refl }
shared-of counter (of.Coupled lower upper) (inr has) = record { group = upper; has = has; also = inr refl }

-- A machine has a group, of a need's class or wider.
pub record IsOfClass (machine : Capacities) (need : ℕ) (group : CounterGroup) : Type 0 where
  pub has : HasGroup machine group
  pub wide : class_of need ≤ group.width

-- each group of a counter that is enough for a need is of its class or wider
pub of_class : (machine : Capacities) (need : ℕ) (counter : TotalCounter) (group : CounterGroup) → HasCounter machine counter
    → IsEnoughFor need counter → IsGroupOf counter group → IsOfClass machine need group
of_class machine need (of.Single own) group has enough is =
    rw is at (the_group own has (class_of-le machine own need has enough))
  where
    the_group : (g : CounterGroup) → HasGroup machine g → class_of need ≤ g.width → IsOfClass machine need g
    the_group g there wide = record { has = there; wide = wide }
of_class machine need (of.Coupled lower upper) group has enough (inl is) =
    rw is at (wide_as lower has.0 enough.lower_width)
  where
    wide_as : (g : CounterGroup) → HasGroup machine g → g.width ≡ 8 → IsOfClass machine need g
    wide_as g there width = record { has = there; wide = let most = class_of-most need in omega (arith, most, width) }
of_class machine need (of.Coupled lower upper) group has enough (inr is) =
    rw is at (wide_as upper has.1 enough.upper_width)
  where
    wide_as : (g : CounterGroup) → HasGroup machine g → g.width ≡ 8 → IsOfClass machine need g
    wide_as g there width = record { has = there; wide = let most = class_of-most need in omega (arith, most, width) }

-- a counter for more positions than a group has has two groups
pub two_groups : (machine : Capacities) (need : ℕ) (counter : TotalCounter) → 8 < need → HasCounter machine counter → IsEnoughFor need counter
    → lower_group counter ≢ upper_group counter
two_groups machine need (of.Single group) two has enough same =
    by (width-cases machine group has)
  where
    by : (group.width ≡ 8) ⊎ (group.width ≡ 6) ⊎ (group.width ≡ 4) ⊎ (group.width ≡ 3) → ⊥
    by cases = grind (arith, nat_tests, two, enough, cases)
two_groups machine need (of.Coupled lower upper) two has enough same =
    let number = ap (λ (g : CounterGroup). g.number) same in let order = enough.order in omega (arith, number, order)

-- no group of a machine has more than 8 positions
pub width-most : (machine : Capacities) (group : CounterGroup) → HasGroup machine group → group.width ≤ 8
width-most machine group has = by (width-cases machine group has)
  where
    by : (group.width ≡ 8) ⊎ (group.width ≡ 6) ⊎ (group.width ≡ 4) ⊎ (group.width ≡ 3) → group.width ≤ 8
    by cases = grind (arith, nat_tests, cases)

module _ (need : ℕ) (machine : Capacities) where
  -- the lowest free group stays so where others tell the same of what is taken
  pub lowest-same : (P Q : CounterGroup → Type 0) (group : CounterGroup) → ((g : CounterGroup) → P g → Q g) → ((g : CounterGroup) → Q g → P g)
      → IsLowestFree need machine P group → IsLowestFree need machine Q group
  lowest-same P Q group to from found = record {
    there = found.there;
    enough = found.enough;
    free = λ taken. found.free (from group taken);
    lowest = λ other has wide lower. to other (found.lowest other has wide lower);
  }

  -- there is one lowest free group
  pub lowest-single : (P : CounterGroup → Type 0) (group other : CounterGroup) → IsLowestFree need machine P group
      → IsLowestFree need machine P other → group ≡ other
  lowest-single P group other found also =
      ⊎_elim (λ same. same)
      (λ lower. absurd (⊎_elim
      (λ below. found.free (also.lowest group found.there found.enough below))
      (λ below. also.free (found.lowest other also.there also.enough below)) lower))
      (same_or_lower group other)

-- whichever way it is told what is taken, a total takes the same
pub takes-same : (need : ℕ) (machine : Capacities) (P Q : CounterGroup → Type 0) (counter : TotalCounter) → ((g : CounterGroup) → P g → Q g)
    → ((g : CounterGroup) → Q g → P g) → Takes need machine P counter → Takes need machine Q counter
takes-same need machine P Q (of.Single group) to from takes = lowest-same need machine P Q group to from takes
takes-same need machine P Q (of.Coupled lower upper) to from takes = record {
  two = takes.two;
  first = lowest-same 8 machine P Q lower to from takes.first;
  second =
      lowest-same 8 machine (λ g. P g ⊎ (lower ≡ g)) (λ g. Q g ⊎ (lower ≡ g)) upper
      (λ g. ⊎_elim (λ is. inl (to g is)) (λ is. inr is)) (λ g. ⊎_elim (λ is. inl (from g is)) (λ is. inr is)) takes.second;
}

-- what a total takes is one counter
pub takes-single : (need : ℕ) (machine : Capacities) (P : CounterGroup → Type 0) (counter other : TotalCounter) → Takes need machine P counter
    → Takes need machine P other → counter ≡ other
takes-single need machine P (of.Single group) (of.Single its_group) takes also =
    ap of.Single (lowest-single need machine P group its_group takes also)
takes-single need machine P (of.Single group) (of.Coupled lower upper) takes also =
    let most = width-most machine group takes.there in let enough = takes.enough in let two = also.two in
    absurd (omega (arith, most, enough, two))
takes-single need machine P (of.Coupled lower upper) (of.Single group) takes also =
    let most = width-most machine group also.there in let enough = also.enough in let two = takes.two in
    absurd (omega (arith, most, enough, two))
takes-single need machine P (of.Coupled lower upper) (of.Coupled its_lower its_upper) takes also =
    let first : lower ≡ its_lower = lowest-single 8 machine P lower its_lower takes.first also.first in
    let its_second : IsLowestFree 8 machine (λ g. P g ⊎ (lower ≡ g)) its_upper = rw (sym first) at also.second in
    let second : upper ≡ its_upper = lowest-single 8 machine (λ g. P g ⊎ (lower ≡ g)) upper its_upper takes.second its_second in
    ap (λ g. of.Coupled g upper) first ∙ ap (λ g. of.Coupled its_lower g) second

-- what a total takes the machine has
pub takes-there : (need : ℕ) (machine : Capacities) (P : CounterGroup → Type 0) (counter : TotalCounter) → Takes need machine P counter
    → HasCounter machine counter
takes-there need machine P (of.Single group) takes = takes.there
takes-there need machine P (of.Coupled lower upper) takes = (takes.first.there, takes.second.there)

-- and none had it
pub takes-free : (need : ℕ) (machine : Capacities) (P : CounterGroup → Type 0) (counter : TotalCounter) (group : CounterGroup)
    → Takes need machine P counter → IsGroupOf counter group → ¬ P group
takes-free need machine P (of.Single own) group takes is taken = takes.free (rw (sym is) at taken)
takes-free need machine P (of.Coupled lower upper) group takes (inl is) taken = takes.first.free (rw (sym is) at taken)
takes-free need machine P (of.Coupled lower upper) group takes (inr is) taken = takes.second.free (inl (rw (sym is) at taken))

lower-number : (w v m n : ℕ) → w ≡ v → is_before w v (ltb m n) ≡ true → m < n
lower-number w v m n same lower = grind (arith, nat_tests)

-- it is enough for a need of 16 positions at most
pub takes-enough : (need : ℕ) (machine : Capacities) (P : CounterGroup → Type 0) (counter : TotalCounter) → need ≤ 16
    → Takes need machine P counter → IsEnoughFor need counter
takes-enough need machine P (of.Single group) fits takes = takes.enough
takes-enough need machine P (of.Coupled lower upper) fits takes = record {
  from = takes.two;
  to = fits;
  lower_width = lower_eight;
  upper_width = upper_eight;
  order =
      ⊎_elim (λ same. absurd (takes.second.free (inr same)))
      (⊎_elim (λ below. lower-number lower.width upper.width lower.number upper.number (lower_eight ∙ sym upper_eight) below)
      (λ below. absurd (takes.second.free (inl (takes.first.lowest upper takes.second.there takes.second.enough below)))))
      (same_or_lower lower upper);
}
  where
    lower_eight : lower.width ≡ 8
    lower_eight = let most = width-most machine lower takes.first.there in let least = takes.first.enough in omega (arith, most, least)

    upper_eight : upper.width ≡ 8
    upper_eight = let most = width-most machine upper takes.second.there in let least = takes.second.enough in omega (arith, most, least)
