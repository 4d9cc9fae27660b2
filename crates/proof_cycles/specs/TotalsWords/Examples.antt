-- Examples in numbers: a signed amount of two digits with totals at levels 2 and 4, each in three wheels.
use Rattle.std.specs.Prelude.{◌≡◌, ℕ, ◌==◌, Bool, true, false, ◌||◌}
use Rattle.proof_cycles.specs.TotalsWords.CounterCycles.Acts.{Held}
use Rattle.net.specs.declared.cycle.Ordinal.TheVariants.{Third}
use Rattle.proof_cycles.specs.TotalsWords.Amounts.{Amount, HasGroups, state_after}
use Rattle.proof_cycles.specs.TotalsWords.Amounts.Kind.{Entry, Prog}
use Rattle.proof_cycles.specs.TotalsWords.Laws.{ready}

-- the amount
abbrev pub two_totals : Amount
two_totals = record {
  is_signed = true;
  has = λ level. level == 2 || (level == 4);
  digits = λ level. 2;
  width = λ level. 3;
}

-- a number and a balance latch
abbrev pub holds : (number : ℕ) (latch : Bool) → Held
holds number latch = record { number = number; latch = latch }

-- what the totals hold before the first card
abbrev pub at_first : ℕ → Held
at_first level = holds 0 false

-- the totals after one card: a 5
abbrev pub five : ℕ → Held
five = state_after two_totals (Entry false 5) at_first

-- the totals after one card: a negated 5
abbrev pub less_five : ℕ → Held
less_five = state_after two_totals (Entry true 5) at_first

-- the totals after two cards: a 5, then a negated 5
abbrev pub five_and_back : ℕ → Held
five_and_back = state_after two_totals (Entry true 5) five

-- The amount keeps the rules of the laws. A 5 shows as it stands, and goes up by adding. 5 below 0 stands as 994, is turned into 5 with
-- the latch set, and goes up by subtracting. A sum of 0 that stands as all nines sets the latch, and is turned into 0.
pub record InThreeWheels : Type 0 where
  pub lawful : HasGroups two_totals
  pub above : five 2 ≡ holds 5 false
  pub above_ready : ready two_totals 2 five 2 ≡ holds 5 false
  pub above_gone_up : state_after two_totals (Prog 2 Third) (ready two_totals 2 five) 4 ≡ holds 5 false
  pub below : less_five 2 ≡ holds 994 false
  pub below_ready : ready two_totals 2 less_five 2 ≡ holds 5 true
  pub below_gone_up : state_after two_totals (Prog 2 Third) (ready two_totals 2 less_five) 4 ≡ holds 994 false
  pub below_cleared : state_after two_totals (Prog 2 Third) (ready two_totals 2 less_five) 2 ≡ holds 0 true
  pub nines : five_and_back 2 ≡ holds 999 false
  pub nines_ready : ready two_totals 2 five_and_back 2 ≡ holds 0 true
