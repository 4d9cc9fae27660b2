-- The digits of the number of an account are those that its groups entered.
use Rattle.std.proofs.Common.{◌≡◌, ◌∙◌, sym, ap, subst, refl, ℕ, suc, ◌+◌, ◌-◌, ◌*◌, ◌^◌, ◌<◌, ◌≤◌, ◌==◌, nat_le, Bool, true, false, List, [], ◌∷◌, All, Option, length, arith, if◌then◌else◌}
use Rattle.std.proofs.lemmas.Bool.Decides.{nat_tests}
use Rattle.std.proofs.lemmas.List.Elements.{All-head, All-tail}
use Rattle.std.proofs.lemmas.Nat.{div-mul-add}
use Rattle.std.specs.Prelude.{IsSome, Vec}
use Rattle.std.specs.declared.alloc.Global.{Global}
use Rattle.counters.proofs.NumberLemmas.{number-lt}
use Rattle.counters.specs.Counters.{Counter, group_of_unit, width_of}
use Rattle.counters.specs.Laws.{IsDigit}
use Rattle.counters.specs.Numbers.{number}
use Rattle.explain_ledgers.specs.CycleWays.Points.{TellsOf}
use Rattle.explain_ledgers.specs.CycleWays.ToldImpulses.{DigitsAreTold, digit_at}
use Rattle.hubs.specs.HubTable.Places.{is_width}
use Rattle.hubs.specs.declared.hub.Group.{Group}
use Rattle.hubs.specs.declared.hub.Hub.{Hub}
use Rattle.hubs.specs.declared.hub.Hub.TheVariants.{GE}
use Rattle.explain_ledgers.proofs.LedgersWords.Whole.{InCycle, holds, in-cycle, start-group}
use Rattle.explain_ledgers.specs.LedgersWords.Entries.{joined}
use Rattle.explain_ledgers.specs.LedgersWords.Ledgers.{Along, ComesTo, at_start, group_at, on}
use Rattle.explain_ledgers.specs.LedgersWords.Running.{HasCycle}
use Rattle.explain_ledgers.specs.declared.ledgers.account.Account.TheVariants.{One, Coupled}
use Rattle.hubs.specs.SetupsWords.Wiring.{Wiring}
use Rattle.proof_cycles.proofs.TotalsWords.CounterCycles.DigitLemmas.{digit_of-above, digit_of-below, digit_of-top}
use Rattle.proof_cycles.proofs.TotalsWords.CounterCycles.PairLemmas.{digit_of-above_width}
use Rattle.proof_cycles.specs.TotalsWords.CounterCycles.Acts.{digit_of}
use Rattle.explain_wheel_ledgers.specs.LedgerHoles.Positions.{entry_at, position_of_both}
use Rattle.explain_wheel_ledgers.specs.declared.ledger_holes.positions.Position.{Position}
use Rattle.proof_laws.proofs.LedgerAmounts.Counters.{power-is}
use Rattle.proof_laws.proofs.LedgerAmounts.CoupledSums.{entered-within}
use Rattle.proof_laws.specs.LedgerAmounts.DigitWays.{DigitsHaveWays, digit_in}

-- a digit before others leaves the digits of the others, and has zeros above it
before-others : (d : ℕ) (ds : List ℕ) (position : ℕ) → All IsDigit (d ∷ ds) → 1 ≤ position → (length ds + 1 == position) ≡ false
    → digit_of (number ds) position ≡ digit_of (number (d ∷ ds)) position
before-others d ds position all from other = by (nat_le position (length ds)) refl
  where
    by : (b : Bool) → nat_le position (length ds) ≡ b → digit_of (number ds) position ≡ digit_of (number (d ∷ ds)) position
    by true is = sym (digit_of-below d (number ds) (length ds) position from (grind (arith, nat_tests, is)))
    by false is =
        digit_of-above (number ds) (length ds) position (number-lt ds (All-tail IsDigit d ds all)) (grind (arith, nat_tests, is))
        ∙ sym (digit_of-above (number (d ∷ ds)) (suc (length ds)) position (number-lt (d ∷ ds) all) (grind (arith, nat_tests, is, other)))

-- digits are the digits of the number that they spell
digit-spelt : (ds : List ℕ) (position : ℕ) → All IsDigit ds → 1 ≤ position → digit_at ds position ≡ digit_of (number ds) position
digit-spelt [] position all from = sym (digit_of-above 0 0 position (omega arith) (omega (arith, from)))
digit-spelt (d ∷ ds) position all from =
    by (digit-spelt ds position (All-tail IsDigit d ds all) from) (length ds + 1 == position) refl
  where
    by : digit_at ds position ≡ digit_of (number ds) position → (b : Bool) → (length ds + 1 == position) ≡ b
        → (if b then d else digit_at ds position) ≡ digit_of (number (d ∷ ds)) position
    by below true is =
        let at : length ds + 1 ≡ position = grind (arith, nat_tests, is) in
        sym (digit_of-top d (number ds) (length ds) (All-head IsDigit d ds all) (number-lt ds (All-tail IsDigit d ds all)))
        ∙ ap (digit_of (number (d ∷ ds))) at
    by below false is = below ∙ before-others d ds position all from is

-- the digits of two numbers as one
lower-digit : (upper lower width position : ℕ) → is_width width ≡ true → 1 ≤ position → position ≤ width
    → digit_of (joined upper lower width) position ≡ digit_of lower position
lower-digit upper lower width position is from to =
    ap (λ (p : ℕ). digit_of (upper * p + lower) position) (power-is width is) ∙ digit_of-below upper lower width position from to

upper-digit : (upper lower width position : ℕ) → is_width width ≡ true → lower < 10 ^ width → width < position
    → digit_of (joined upper lower width) position ≡ digit_of upper (position - width)
upper-digit upper lower width position is few above =
    let at : position ≡ width + (position - width) = omega (arith, above) in
    ap (λ (p : ℕ). digit_of (upper * p + lower) position) (power-is width is)
    ∙ ap (digit_of (upper * 10 ^ width + lower)) at
    ∙ digit_of-above_width (upper * 10 ^ width + lower) width (position - width) (omega (arith, above))
    ∙ ap (λ (n : ℕ). digit_of n (position - width)) (div-mul-add upper (10 ^ width) lower few)

-- what the ways of a cycle of a run tell of its groups
module _ (told : DigitsAreTold) (wiring : Wiring) (deck : List (List ℕ)) (passed : ℕ) (has : HasCycle wiring deck passed) where
  behind-points : (place : ℕ) → place < 32 → InCycle place has.cycle has.along.run.machine has.behind
  behind-points place low = in-cycle wiring has.cycle place has.along has.behind low (holds wiring deck place low has.comes) has.goes

  named-along : (place : ℕ) {along : Along} → place < 32 → ComesTo wiring deck along
      → (group_at along.run.machine place).name ≡ group_of_unit (3 + place)
  named-along place low at_start = ap (λ (g : Counter). g.name) (start-group wiring deck place low)
  named-along place low (on cycle before behind comes goes) =
      let here = in-cycle wiring cycle place before behind low (holds wiring deck place low comes) goes in
      ap (λ (g : Counter). g.name) here.same ∙ here.name ∙ named-along place low comes

  -- a group has the name of its place
  group-named : (place : ℕ) → place < 32 → (group_at has.behind place).name ≡ group_of_unit (3 + place)
  group-named place low = (behind-points place low).name ∙ named-along place low has.comes

  -- the digit of a number that is that of a group at a position of its own
  group-way : (place number_of own : ℕ) (at : Position) (found : Option (Vec Hub Global)) → place < 32 → 1 ≤ own → 1 ≤ number_of
      → at ≡ record { group = group_of_unit (3 + place); position = own }
      → number_of ≡ digit_of (number (group_at has.behind place).entered) own
      → TellsOf has (10 - number_of) (entry_at at) found → IsSome found
  group-way place digit own at found low from some is_at is tells =
      let same : digit ≡ digit_at (group_at has.behind place).entered own
      = is ∙ sym (digit-spelt (group_at has.behind place).entered own (behind-points place low).lawful.entered from) in
      told wiring deck passed has place own found low (subst (λ (d : ℕ). 1 ≤ d) same some)
      (subst (λ (d : ℕ). TellsOf has (10 - d) (GE (group_of_unit (3 + place)) own) found) same
      (subst (λ (p : Position). TellsOf has (10 - digit) (entry_at p) found) is_at tells))

  -- the positions of two groups as one, those of the lower one first
  position-is : (upper lower position : ℕ) (b : Bool) → nat_le position (width_of (3 + lower)) ≡ b
      → position_of_both upper lower position
      ≡ (if b
      then record { group = group_of_unit (3 + lower); position = position }
      else record { group = group_of_unit (3 + upper); position = position - width_of (3 + lower) })
  position-is upper lower position b is =
      ap
      (λ (c : Bool). if c
      then record { group = group_of_unit (3 + lower); position = position }
      else record { group = group_of_unit (3 + upper); position = position - width_of (3 + lower) }) is

  both-way : (upper lower position : ℕ) (found : Option (Vec Hub Global)) → upper < 32 → lower < 32 → 1 ≤ position
      → 1 ≤ digit_in (Coupled upper lower) has position
      → TellsOf has (10 - digit_in (Coupled upper lower) has position) (entry_at (position_of_both upper lower position)) found
      → IsSome found
  both-way upper lower position found high low from some tells = by (nat_le position (width_of (3 + lower))) refl
    where
      wide : (group_at has.behind lower).name.width ≡ width_of (3 + lower)
      wide = ap (λ (g : Group). g.width) (group-named lower low)

      by : (b : Bool) → nat_le position (width_of (3 + lower)) ≡ b → IsSome found
      by true is =
          group-way lower (digit_in (Coupled upper lower) has position) position (position_of_both upper lower position) found low from some
          (position-is upper lower position true is)
          (lower-digit (number (group_at has.behind upper).entered) (number (group_at has.behind lower).entered)
          (group_at has.behind lower).name.width position (behind-points lower low).lawful.width from (grind (arith, nat_tests, is, wide)))
          tells
      by false is =
          group-way upper (digit_in (Coupled upper lower) has position) (position - width_of (3 + lower))
          (position_of_both upper lower position) found high (grind (arith, nat_tests, is)) some
          (position-is upper lower position false is)
          (upper-digit (number (group_at has.behind upper).entered) (number (group_at has.behind lower).entered)
          (group_at has.behind lower).name.width position (behind-points lower low).lawful.width
          (entered-within (group_at has.behind lower) (behind-points lower low).lawful) (grind (arith, nat_tests, is, wide))
          ∙ ap (λ (n : ℕ). digit_of (number (group_at has.behind upper).entered) (position - n)) wide)
          tells

pub digits-have : DigitsAreTold → DigitsHaveWays
digits-have told wiring deck passed has (One place) position found low from some tells =
    group-way told wiring deck passed has place (digit_in (One place) has position) position
    (record { group = group_of_unit (3 + place); position = position }) found low from some refl refl tells
digits-have told wiring deck passed has (Coupled upper lower) position found lows from some tells =
    both-way told wiring deck passed has upper lower position found lows.0 lows.1 from some tells
