-- What is told of capacities, one after another.
use Rattle.std.proofs.Math.ListN.{drop_of_length-le}
use Rattle.std.proofs.Math.Seq.{drop-cons}
use Rattle.std.proofs.Common.{◌≡◌, ◌∙◌, sym, ap, subst, ℕ, suc, ◌+◌, ◌<◌, ◌≤◌, arith, inl, inr, List, [], ◌∷◌, ◌++◌, append-nil, append_assoc, length, drop, get_or}
use Rattle.allocate.specs.declared.fault.CapacityFault.{CapacityFault}
use Rattle.capacity.specs.Capacities.{Capacities}
use Rattle.fault_lists.specs.CapacityFaults.AllOver.{AreAllOver, GainsOver, GoesOn, none, over, within}
use Rattle.chart_plans.specs.WantedWords.Wanted.{Wanted}
use Rattle.chart_plans.specs.declared.wanted.count.Capacity.{Capacity}

module _ (wanted : Wanted) (machine : Capacities) where
  -- one capacity more
  pub one_more : (all rest : List Capacity) (capacity : Capacity) (old new : List CapacityFault)
      → GoesOn wanted machine (capacity ∷ rest) all old → GainsOver wanted machine capacity old new → GoesOn wanted machine rest all new
  one_more all rest capacity old new goes (inl (told, tells, is)) others are =
      subst (AreAllOver wanted machine all) (sym (ap (λ (l : List CapacityFault). l ++ others) is ∙ append_assoc old (told ∷ []) others))
      (goes (told ∷ others) (over capacity rest told others tells are))
  one_more all rest capacity old new goes (inr (not_over, is)) others are =
      subst (AreAllOver wanted machine all) (sym (ap (λ (l : List CapacityFault). l ++ others) is))
      (goes others (within capacity rest others not_over are))

  -- that at a place
  pub one_at : (all : List Capacity) (place : ℕ) (other : Capacity) (old new : List CapacityFault) → place < length all
      → GoesOn wanted machine (drop place all) all old → GainsOver wanted machine (get_or all place other) old new
      → GoesOn wanted machine (drop (place + 1) all) all new
  one_at all place other old new there goes gains =
      let next : suc place ≡ place + 1 = omega arith in
      one_more all (drop (place + 1) all) (get_or all place other) old new
      (subst (λ rest. GoesOn wanted machine rest all old)
      (drop-cons all place other there ∙ ap (λ (n : ℕ). get_or all place other ∷ drop n all) next) goes) gains

  -- none is left
  pub all_told : (all : List Capacity) (place : ℕ) (told : List CapacityFault) → length all ≤ place → GoesOn wanted machine (drop place all) all told
      → AreAllOver wanted machine all told
  all_told all place told last goes =
      subst (AreAllOver wanted machine all) (append-nil told)
      (subst (λ rest. GoesOn wanted machine rest all told) (drop_of_length-le all last) goes [] none)

  -- nothing was told
  pub begins : (all : List Capacity) (told : List CapacityFault) → told ≡ [] → GoesOn wanted machine all all told
  begins all told is others are = subst (λ (l : List CapacityFault). AreAllOver wanted machine all (l ++ others)) (sym is) are
