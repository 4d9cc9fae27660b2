-- The lines of the digits of an entry.
use Rattle.std.proofs.Common.{◌≡◌, ◌∙◌, refl, sym, ap, subst, ℕ, suc, ◌+◌, ◌-◌, ◌/◌, ◌%◌, ◌^◌, ◌≤◌, List, Option, Some, None, arith, get_or}
use Rattle.std.proofs.lemmas.Bool.{false≢true}
use Rattle.std.proofs.Math.Nat.{div-div-eq-div-mul, div-one, pow-suc}
use Rattle.std.specs.Prelude.{IsSome, Vec}
use Rattle.std.specs.declared.alloc.Global.{Global}
use Rattle.hubs.specs.declared.hub.Hub.{Hub}
use Rattle.explain_ledgers.proofs.LedgersWords.Places.{entries-tell}
use Rattle.explain_ledgers.specs.LedgersWords.Accounts.{IsAccount, positions_of}
use Rattle.explain_ledgers.specs.LedgersWords.Running.{HasCycle}
use Rattle.explain_ledgers.specs.declared.ledgers.account.Account.{Account}
use Rattle.explain_ledgers.specs.declared.ledgers.entry.Change.{Change}
use Rattle.explain_ledgers.specs.declared.ledgers.entry.Change.TheVariants.{Plus, Minus, Turned, Carry, Apart}
use Rattle.explain_ledgers.specs.declared.ledgers.entry.Entry.{Entry}
use Rattle.net.specs.declared.cycle.Cycle.{Cycle}
use Rattle.explain_origins.specs.declared.holes.Hole.{Hole}
use Rattle.explain_ledgers.specs.CycleWays.Points.{TellsOf}
use Rattle.hubs.specs.SetupsWords.Wiring.{Wiring}
use Rattle.proof_cycles.specs.TotalsWords.CounterCycles.Acts.{digit_of}
use Rattle.explain_wheel_ledgers.specs.LedgerHoles.Digits.{AreDigitLines, IsDigitLine, IsLineBy, came, digit_label, hole_for, next_digit, no_digit, nothing, row_of}
use Rattle.explain_wheel_ledgers.specs.LedgerHoles.Down.{AreEntered}
use Rattle.explain_wheel_ledgers.specs.LedgerHoles.Positions.{entry_at, position_in}
use Rattle.explain_wheel_ledgers.specs.LedgerHoles.Ways.{way_line}
use Rattle.explain_wheel_ledgers.specs.declared.ledger_holes.positions.Position.{Position}
use Rattle.proof_laws.specs.LedgerAmounts.Changes.{movement_in}
use Rattle.proof_laws.specs.LedgerAmounts.DigitWays.{AreRowLines, DigitsHaveWays, EntriesTellRows, IsRowLine, TellsRows, by_hole, by_way, next_row, no_line, no_row}

-- What is told at the row of a digit of an entry of a position is a way.
abbrev HasWay : {wiring : Wiring} {deck : List (List ℕ)} {passed : ℕ} → HasCycle wiring deck passed → Position → (digit : ℕ) → Type 0
HasWay has at_position digit =
    (found : Option (Vec Hub Global)) → 1 ≤ digit → TellsOf has (10 - digit) (entry_at at_position) found → IsSome found

module _ {wiring : Wiring} {deck : List (List ℕ)} {passed : ℕ} (has : HasCycle wiring deck passed) (cycle : Cycle) (card : ℕ) where
  -- a line with what is told at the row of a digit, which is a way
  way-stands : (at_position : Position) (digit : ℕ) (line : List ℕ) (found : Option (Vec Hub Global)) → 1 ≤ digit
      → hole_for wiring deck cycle card (row_of digit) (entry_at at_position) ≡ None
      → TellsOf has (10 - digit) (entry_at at_position) found → IsSome found
      → line ≡ way_line (digit_label (row_of digit)) found → IsRowLine has cycle card at_position digit line
  way-stands at_position digit line None some none tells there is = absurd (false≢true there)
  way-stands at_position digit line (Some way) some none tells there is =
      subst (IsRowLine has cycle card at_position digit) (sym is) (by_way digit way some none tells)

  line-by : (at_position : Position) (digit : ℕ) (line : List ℕ) (hole : Option Hole)
      → hole_for wiring deck cycle card (row_of digit) (entry_at at_position) ≡ hole → 1 ≤ digit → HasWay has at_position digit
      → IsLineBy has card at_position digit hole line → IsRowLine has cycle card at_position digit line
  line-by at_position digit line (Some hole) is_hole some ways is =
      subst (IsRowLine has cycle card at_position digit) (sym is) (by_hole digit hole some is_hole)
  line-by at_position digit line None is_hole some ways is =
      way-stands at_position digit line is.found some is_hole is.tells (ways is.found some is.tells) is.line

  row-line : (at_position : Position) {digit : ℕ} {line : List ℕ} → HasWay has at_position digit
      → IsDigitLine has cycle card at_position digit line → IsRowLine has cycle card at_position digit line
  row-line at_position ways nothing = no_line
  row-line at_position ways (came digit line some is) =
      line-by at_position digit line (hole_for wiring deck cycle card (row_of digit) (entry_at at_position)) refl some ways is

  -- one digit less
  without-last : (whole position number : ℕ) → 1 ≤ position → number ≡ whole / 10 ^ (position - 1)
      → number / 10 ≡ whole / 10 ^ (position + 1 - 1)
  without-last whole position number from is =
      let places : position + 1 - 1 ≡ suc (position - 1) = omega (arith, from) in
      ap (λ (n : ℕ). n / 10) is ∙ div-div-eq-div-mul whole (10 ^ (position - 1)) 10
      ∙ ap (λ (n : ℕ). whole / n) (sym (ap (λ (k : ℕ). 10 ^ k) places ∙ pow-suc 10 (position - 1)))

  -- the lines of the digits of a number from a position on
  row-lines : (account : Account) (whole : ℕ) {count position number : ℕ} {lines : List ℕ}
      → ((place : ℕ) → 1 ≤ place → HasWay has (position_in account place) (digit_of whole place))
      → 1 ≤ position → number ≡ whole / 10 ^ (position - 1) → AreDigitLines has cycle card account count position number lines
      → AreRowLines has cycle card account count position number lines
  row-lines account whole ways from is (no_digit position number) = no_row position number
  row-lines account whole ways from is (next_digit count position number above line others last) =
      next_row count position number above line
      (row-lines account whole ways (omega arith) (without-last whole position number from is) others)
      (row-line (position_in account position)
      (subst (HasWay has (position_in account position)) (sym (ap (λ (n : ℕ). n % 10) is)) (ways position from)) last)

-- those below an entry
module _ (ways : DigitsHaveWays) {wiring : Wiring} {deck : List (List ℕ)} {passed : ℕ} (has : HasCycle wiring deck passed) (account : Account)
    (its : IsAccount account) (entry : Entry) (is : entry.entered ≡ (movement_in account has).entered) where
  all-lines : (lines : List ℕ) → AreDigitLines has entry.cycle entry.card account (positions_of account) 1 entry.entered lines
      → AreRowLines has entry.cycle entry.card account (positions_of account) 1 entry.entered lines
  all-lines lines are =
      row-lines has entry.cycle entry.card account entry.entered
      (λ place from. subst (λ (n : ℕ). HasWay has (position_in account place) (digit_of n place)) (sym is)
      (λ found some tells. ways wiring deck passed has account place found its from some tells))
      (omega arith) (sym (div-one entry.entered)) are

  tells-rows : (change : Change) (lines : List ℕ) → AreEntered has account entry change lines → TellsRows has account entry change lines
  tells-rows Plus lines are = all-lines lines are
  tells-rows Minus lines are = all-lines lines are
  tells-rows Turned lines are = are
  tells-rows Carry lines are = are
  tells-rows Apart lines are = all-lines lines are

pub entries-rows : DigitsHaveWays → EntriesTellRows
entries-rows ways wiring deck words account along entries its ledger = λ k d low text down.
    let entry : Entry = get_or entries k d in
    let tells = (entries-tell wiring deck account along entries ledger k d low).tells down.has in
    tells-rows ways down.has account its entry (ap (λ (e : Entry). e.entered) tells) entry.change down.entered down.are_entered
