-- What a total takes by what is taken and what is set aside, and that too little is free for it.
use Rattle.std.proofs.Common.{◌≡◌, ap, ℕ, ◌<◌, List, Option, Some, None, ◌⊎◌, inl, inr}
use Rattle.capacity.specs.Capacities.{Capacities}
use Rattle.capacity.specs.declared.group.CounterGroup.{CounterGroup}
use Rattle.chart_plans.specs.declared.plans.counter.TotalCounter.{TotalCounter}
use Rattle.chart_plans.specs.declared.plans.counter.TotalCounter.TheVariants as of
use Rattle.allocate.specs.Groups.{IsLowestFree, Takes}
use Rattle.allocate.specs.HelperTaking.{AreAllTaken, AreTooFew, IsTaken, IsUsed}

-- where none is set aside, some total has each group that is used
used-taken : (taken : List (Option TotalCounter)) (group : CounterGroup) → IsUsed taken None group → IsTaken taken group
used-taken taken group (inl held) = held
used-taken taken group (inr is) = cc

-- where a group is set aside, each that is used is that one, or some total has it
used-other : (taken : List (Option TotalCounter)) (lower group : CounterGroup) → IsUsed taken (Some lower) group
    → IsTaken taken group ⊎ (lower ≡ group)
used-other taken lower group (inl held) = inl held
used-other taken lower group (inr is) = inr cc

other-used : (taken : List (Option TotalCounter)) (lower group : CounterGroup) → IsTaken taken group ⊎ (lower ≡ group)
    → IsUsed taken (Some lower) group
other-used taken lower group (inl held) = inl held
other-used taken lower group (inr is) = inr (ap Some is)

-- the lowest free group is so by another word for what is taken
lowest-as : (need : ℕ) (machine : Capacities) (One Other : CounterGroup → Type 0) (group : CounterGroup)
    → ((held : CounterGroup) → One held → Other held) → ((held : CounterGroup) → Other held → One held)
    → IsLowestFree need machine One group → IsLowestFree need machine Other group
lowest-as need machine One Other group to from found =
    record {
      there = found.there;
      enough = found.enough;
      free = λ held. found.free (from group held);
      lowest = λ other has enough lower. to other (found.lowest other has enough lower);
    }

-- what a total takes: the lowest free group
pub takes-one : (need : ℕ) (machine : Capacities) (taken : List (Option TotalCounter)) (group : CounterGroup)
    → IsLowestFree need machine (IsUsed taken None) group → Takes need machine (IsTaken taken) (of.Single group)
takes-one need machine taken group =
    lowest-as need machine (IsUsed taken None) (IsTaken taken) group (used-taken taken) (λ held is. inl is)

-- or the two lowest
pub takes-two : (need : ℕ) (machine : Capacities) (taken : List (Option TotalCounter)) (lower upper : CounterGroup)
    → 8 < need → IsLowestFree 8 machine (IsUsed taken None) lower → IsLowestFree 8 machine (IsUsed taken (Some lower)) upper
    → Takes need machine (IsTaken taken) (of.Coupled lower upper)
takes-two need machine taken lower upper two first second =
    record {
      two = two;
      first = takes-one 8 machine taken lower first;
      second = lowest-as 8 machine (IsUsed taken (Some lower)) (λ group. IsTaken taken group ⊎ (lower ≡ group)) upper
          (used-other taken lower) (other-used taken lower) second;
    }

-- too few groups are free for a total that takes two
pub few-for_two : (need : ℕ) (machine : Capacities) (taken : List (Option TotalCounter)) (aside : Option CounterGroup)
    → 8 < need → AreAllTaken 8 machine (IsUsed taken aside) → AreTooFew need machine taken
few-for_two need machine taken aside two all = inr (two, aside, all)
