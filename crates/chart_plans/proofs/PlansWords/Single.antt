-- Counters of which no two share a group.
use Rattle.std.proofs.Common.{◌≡◌, ◌⊎◌, ℕ, ◌+◌, ◌<◌, ◌≤◌, Bool, true, false, List, length, Some, slice_get, take, nat_lt, refl, sym, ap, ◌∙◌, inl, inr, arith}
use Rattle.std.proofs.lemmas.Bool.Decides.{nat_tests}
use Rattle.std.proofs.lemmas.Option.{slice_get_within, slice_get-get_or, get_or_from_slice_get}
use Rattle.std.proofs.lemmas.List.{get_or-take, length-take-le}
use Rattle.chart_plans.specs.PlansWords.Counters.{SharesGroup}
use Rattle.chart_plans.specs.PlansWords.HelperEnough.{AreSingle, SharesWithOne}
use Rattle.chart_plans.specs.declared.plans.counter.TotalCounter.{TotalCounter}
use Rattle.chart_plans.specs.declared.plans.counter.TotalCounter.TheVariants as of

-- sharing a group goes both ways
pub SharesGroup-again : (counter other : TotalCounter) → SharesGroup counter other → SharesGroup other counter
SharesGroup-again (of.Single group) (of.Single its_group) shares = sym shares
SharesGroup-again (of.Coupled lower upper) (of.Single group) (inl one) = inl (sym one)
SharesGroup-again (of.Coupled lower upper) (of.Single group) (inr two) = inr (sym two)
SharesGroup-again (of.Single group) (of.Coupled lower upper) (inl one) = inl (sym one)
SharesGroup-again (of.Single group) (of.Coupled lower upper) (inr two) = inr (sym two)
SharesGroup-again (of.Coupled lower upper) (of.Coupled its_lower its_upper) (inl (inl one)) = inl (inl (sym one))
SharesGroup-again (of.Coupled lower upper) (of.Coupled its_lower its_upper) (inl (inr two)) = inr (inl (sym two))
SharesGroup-again (of.Coupled lower upper) (of.Coupled its_lower its_upper) (inr (inl one)) = inl (inr (sym one))
SharesGroup-again (of.Coupled lower upper) (of.Coupled its_lower its_upper) (inr (inr two)) = inr (inr (sym two))

-- a counter that no total has
abbrev pub no_counter : TotalCounter
no_counter = of.Single (record { width = 0; number = 0 })

-- none of the first counters shares a group with another of them
pub record AreSingleBelow (counters : List TotalCounter) (count : ℕ) : Type 0 where
  pub single : (one other : ℕ) (counter its_counter : TotalCounter) → one < count → other < count
      → slice_get counters one ≡ Some counter → slice_get counters other ≡ Some its_counter → SharesGroup counter its_counter → one ≡ other

-- a counter that stands before a place is one of those before it
slice_get-before : (counters : List TotalCounter) (i one : ℕ) (counter : TotalCounter) → one < i → i ≤ length counters
    → slice_get counters one ≡ Some counter → slice_get (take i counters) one ≡ Some counter
slice_get-before counters i one counter lt within at =
    slice_get-get_or (take i counters) one counter (omega (arith, length-take-le i counters within))
    ∙ ap Some (get_or-take i counters one counter lt ∙ get_or_from_slice_get counters one counter counter at)

module _ (counters : List TotalCounter) (i : ℕ) (counter : TotalCounter) (within : i < length counters) (at : slice_get counters i ≡ Some counter) where
  -- one more counter that shares no group with those before
  pub AreSingleBelow-more : AreSingleBelow counters i → ¬ SharesWithOne (take i counters) counter → AreSingleBelow counters (i + 1)
  AreSingleBelow-more below new = record {
    single = λ one other each its lt lt' here there shares. by one other each its (nat_lt one i) (nat_lt other i) refl refl lt lt' here there shares;
  }
    where
      by : (one other : ℕ) (each its : TotalCounter) (a b : Bool) → nat_lt one i ≡ a → nat_lt other i ≡ b → one < i + 1 → other < i + 1
          → slice_get counters one ≡ Some each → slice_get counters other ≡ Some its → SharesGroup each its → one ≡ other
      by one other each its true true a b lt lt' here there shares =
          below.single one other each its (grind (arith, nat_tests)) (grind (arith, nat_tests)) here there shares
      by one other each its false false a b lt lt' here there shares = grind (arith, nat_tests)
      by one other each its true false a b lt lt' here there shares =
          let same : other ≡ i = grind (arith, nat_tests) in
          let is : its ≡ counter = let e : Some its ≡ Some counter = sym there ∙ ap (slice_get counters) same ∙ at in cc in
          absurd (new (record {
            place = one;
            counter = each;
            there = slice_get-before counters i one each (grind (arith, nat_tests)) (omega (arith, within)) here;
            shares = rw (← is) shares;
          }))
      by one other each its false true a b lt lt' here there shares =
          let same : one ≡ i = grind (arith, nat_tests) in
          let is : each ≡ counter = let e : Some each ≡ Some counter = sym here ∙ ap (slice_get counters) same ∙ at in cc in
          absurd (new (record {
            place = other;
            counter = its;
            there = slice_get-before counters i other its (grind (arith, nat_tests)) (omega (arith, within)) there;
            shares = rw (← is) (SharesGroup-again each its shares);
          }))

-- where no place is left
pub AreSingle-all : (counters : List TotalCounter) (count : ℕ) → length counters ≤ count → AreSingleBelow counters count → AreSingle counters
AreSingle-all counters count past below one other counter its_counter here there shares =
    below.single one other counter its_counter (omega (arith, slice_get_within counters one counter here))
    (omega (arith, slice_get_within counters other its_counter there)) here there shares
