-- By which holes of a card, or by which ways, the digits of a number came in in a cycle of a run.
use Rattle.std.specs.Prelude.{◌≡◌, ℕ, ◌+◌, ◌-◌, ◌/◌, ◌%◌, ◌≤◌, List, [], ◌++◌, Option, Some, None, codes, decimal}
use Rattle.card_code.specs.Rows.{row_number}
use Rattle.card_code.specs.declared.row.Row.{Row}
use Rattle.explain_wheels.specs.ExplanationsWords.Explanations.{row_passing}
use Rattle.explain_ledgers.specs.LedgersWords.Running.{HasCycle}
use Rattle.explain_ledgers.specs.declared.ledgers.account.Account.{Account}
use Rattle.hubs.specs.declared.hub.Hub.{Hub}
use Rattle.net.specs.declared.cycle.Cycle.{Cycle}
use Rattle.net.specs.declared.cycle.Cycle.TheVariants.{RunIn, Card, Prog, Head}
use Rattle.explain_origins.specs.Holes.{hole_to}
use Rattle.explain_origins.specs.Storage.{led_text}
use Rattle.explain_origins.specs.declared.holes.Hole.{Hole}
use Rattle.hubs.specs.SetupsWords.Wiring.{Wiring}
use Rattle.explain_wheel_ledgers.specs.LedgerHoles.Positions.{entry_at, entry_text, position_in}
use Rattle.explain_wheel_ledgers.specs.LedgerHoles.Ways.{IsWayLine}
use Rattle.explain_wheel_ledgers.specs.declared.ledger_holes.positions.Position.{Position}

-- the row of a digit, 1 to 9
abbrev pub row_of : ℕ → Row
row_of digit = row_passing (9 - digit)

-- what a line of a row begins with
abbrev pub digit_label : Row → List ℕ
digit_label row = codes "    row " ++ decimal (row_number row) ++ codes ":"

-- the line of a row that came in at a position by a hole, and the wire from its brush
abbrev pub hole_line : (card : ℕ) → Position → Row → Hole → List ℕ
hole_line card at_position row hole =
    digit_label row ++ codes " " ++ led_text (Some hole) card (entry_text at_position) ++ codes "\n"

-- A hole in a row from which a wire leads to an entry in a cycle in which so many cards were read. It is told of card cycles alone: then the
-- card is read that the entry of the ledger names.
abbrev pub hole_for : Wiring → List (List ℕ) → Cycle → (card : ℕ) → Row → Hub → Option Hole
hole_for wiring cards RunIn card row entry = None
hole_for wiring cards Card card row entry = hole_to wiring cards card row entry
hole_for wiring cards (Prog level ordinal) card row entry = None
hole_for wiring cards (Head heading) card row entry = None

-- The line of a digit, 1 to 9, that came in at a position: a wire straight from a hole, if there is one, and else the way. The row 9 has
-- place 1 of the points, and the row 1 place 9.
abbrev pub IsLineBy : {wiring : Wiring} {deck : List (List ℕ)} {passed : ℕ} → HasCycle wiring deck passed → (card : ℕ) → Position
    → (digit : ℕ) → Option Hole → List ℕ → Type 0
IsLineBy has card at_position digit (Some hole) answer = answer ≡ hole_line card at_position (row_of digit) hole
IsLineBy has card at_position digit None answer =
    IsWayLine has (10 - digit) (entry_at at_position) (digit_label (row_of digit)) answer

-- The line of a digit that came in at a position in a cycle in which so many cards were read; no row of a 0 comes in.
pub data IsDigitLine {wiring : Wiring} {deck : List (List ℕ)} {passed : ℕ} (has : HasCycle wiring deck passed) (cycle : Cycle) (card : ℕ)
    (at_position : Position) : (digit : ℕ) → List ℕ → Type 0 where
  nothing : IsDigitLine has cycle card at_position 0 []
  came :
      (digit : ℕ) (line : List ℕ) → 1 ≤ digit
      → IsLineBy has card at_position digit (hole_for wiring deck cycle card (row_of digit) (entry_at at_position)) line
      → IsDigitLine has cycle card at_position digit line

-- The lines of so many digits of a number that came to an account, from a position on upwards; the top one comes first.
pub data AreDigitLines {wiring : Wiring} {deck : List (List ℕ)} {passed : ℕ} (has : HasCycle wiring deck passed) (cycle : Cycle) (card : ℕ)
    (account : Account) : (count position number : ℕ) → List ℕ → Type 0 where
  no_digit : (position number : ℕ) → AreDigitLines has cycle card account 0 position number []
  next_digit :
      (count position number : ℕ) (above line : List ℕ)
      → AreDigitLines has cycle card account count (position + 1) (number / 10) above
      → IsDigitLine has cycle card (position_in account position) (number % 10) line
      → AreDigitLines has cycle card account (count + 1) position number (above ++ line)
