-- Examples, worked out by hand: the report of sales by department, whose cards have the department in the columns 1 and 2 and the sales in 3 to
-- 8; a card by whose row 11 in column 9 an amount is negated; and the digits of 215.40 in a counter group of eight positions.
use Rattle.std.specs.Prelude.{◌≡◌, ℕ, ◌^◌, ◌≤◌, ℤ, pos, neg_ℤ, false, List, [], ◌∷◌, ◌++◌, Some, None, codes}
use Rattle.chart_lines.specs.declared.charts.chart.Line.{Line}
use Rattle.chart_lines.specs.declared.charts.level.ControlLevel.TheVariants as control
use Rattle.chart_lines.specs.declared.charts.statement.Field.{Field}
use Rattle.chart_lines.specs.declared.charts.statement.FieldKind.TheVariants as holds
use Rattle.chart_lines.specs.declared.charts.statement.SignRule.TheVariants as sign
use Rattle.chart_lines.specs.declared.charts.statement.Statement.TheVariants as says
use Rattle.hubs.specs.declared.hub.Group.{Group}
use Rattle.hubs.specs.declared.hub.Hub.TheVariants.{GE}
use Rattle.explain_ledgers.specs.LedgersWords.Running.{HasCycle}
use Rattle.explain_ledgers.specs.declared.ledgers.account.Account.TheVariants.{One, Coupled}
use Rattle.explain_ledgers.specs.declared.ledgers.entry.Change.TheVariants.{Minus}
use Rattle.explain_ledgers.specs.declared.ledgers.entry.Entry.{Entry}
use Rattle.net.specs.declared.cycle.Cycle.{Cycle}
use Rattle.net.specs.declared.cycle.Cycle.TheVariants.{Card, Prog}
use Rattle.net.specs.declared.cycle.Ordinal.TheVariants.{Third}
use Rattle.net.specs.declared.cycle.ProgramLevel.TheVariants.{Minor}
use Rattle.hubs.specs.SetupsWords.Wiring.{Wiring}
use Rattle.proof_cycles.specs.TotalsWords.CounterCycles.Acts.{digit_of}
use Rattle.explain_wheel_ledgers.specs.LedgerHoles.Digits.{digit_label, row_of}
use Rattle.explain_wheel_ledgers.specs.LedgerHoles.Positions.{entry_at, position_in}
use Rattle.explain_wheel_ledgers.specs.declared.ledger_holes.positions.Position.{Position}
use Rattle.proof_laws.specs.LedgerAmounts.Amounts.{StandsBehind}
use Rattle.proof_laws.specs.LedgerAmounts.DigitWays.{AreRows, IsRowLine}
use Rattle.proof_laws.specs.LedgerAmounts.Postings.{Posting, posting_of, postings_of, sum_of}

-- the department, and the sales in cents
abbrev pub department : Field
department = record { name = 68 ∷ []; first = 1; last = 2; kind = holds.Text }

abbrev pub sales : Field
sales = record { name = 83 ∷ []; first = 3; last = 8; kind = holds.Amount 2 None }

-- the lines of the chart that name them, and that the department controls level 1
abbrev pub chart_lines : List Line
chart_lines =
    record { number = 3; statement = says.Field department }
    ∷ record { number = 4; statement = says.Field sales }
    ∷ record { number = 5; statement = says.Control control.Minor (68 ∷ []) }
    ∷ []

-- a column with a digit, and one with none
abbrev pub digit : ℕ → ℕ
digit row = 2 ^ row

-- six cards: 47.95, 215.40 and 8.99 of department 10, 125.00 and 39.80 of department 20, and 2499.00 of department 35
abbrev pub card_1 : List ℕ
card_1 = digit 1 ∷ digit 0 ∷ 0 ∷ 0 ∷ digit 4 ∷ digit 7 ∷ digit 9 ∷ digit 5 ∷ []

abbrev pub card_2 : List ℕ
card_2 = digit 1 ∷ digit 0 ∷ 0 ∷ digit 2 ∷ digit 1 ∷ digit 5 ∷ digit 4 ∷ digit 0 ∷ []

abbrev pub card_3 : List ℕ
card_3 = digit 1 ∷ digit 0 ∷ 0 ∷ 0 ∷ 0 ∷ digit 8 ∷ digit 9 ∷ digit 9 ∷ []

abbrev pub card_4 : List ℕ
card_4 = digit 2 ∷ digit 0 ∷ 0 ∷ digit 1 ∷ digit 2 ∷ digit 5 ∷ digit 0 ∷ digit 0 ∷ []

abbrev pub card_5 : List ℕ
card_5 = digit 2 ∷ digit 0 ∷ 0 ∷ 0 ∷ digit 3 ∷ digit 9 ∷ digit 8 ∷ digit 0 ∷ []

abbrev pub card_6 : List ℕ
card_6 = digit 3 ∷ digit 5 ∷ digit 2 ∷ digit 4 ∷ digit 9 ∷ digit 9 ∷ digit 0 ∷ digit 0 ∷ []

abbrev pub first_cards : List (List ℕ)
first_cards = card_1 ∷ card_2 ∷ card_3 ∷ []

abbrev pub other_cards : List (List ℕ)
other_cards = card_4 ∷ card_5 ∷ card_6 ∷ []

-- an amount that row 11 in column 9 negates, and two cards: 60.00, and 85.50 negated
abbrev pub balance : Field
balance = record { name = 66 ∷ []; first = 3; last = 8; kind = holds.Amount 2 (Some (sign.X 9)) }

abbrev pub debit_and_credit : List (List ℕ)
debit_and_credit =
    (0 ∷ 0 ∷ 0 ∷ 0 ∷ digit 6 ∷ digit 0 ∷ digit 0 ∷ digit 0 ∷ 0 ∷ [])
    ∷ (0 ∷ 0 ∷ 0 ∷ 0 ∷ digit 8 ∷ digit 5 ∷ digit 5 ∷ digit 0 ∷ digit 11 ∷ [])
    ∷ []

-- a posting
abbrev pub posting : Cycle → (card : ℕ) → ℤ → Posting
posting cycle card amount = record { cycle = cycle; card = card; amount = amount }

-- an entry that subtracts 85.50 from 60.00, as a group of eight wheels does
abbrev pub credit_entry : Entry
credit_entry = record {
  cycle = Card;
  card = 5;
  passed = 9;
  before = 6000;
  change = Minus;
  entered = 8550;
  carry = false;
  after = 99997449;
}

-- The total of department 10 is 272.34, of the cards 1 to 3, and stands in the report behind these. The grand total is 2936.14, of the totals
-- 272.34, 164.80 and 2499.00, which come after the cards 3, 5 and 6. A debit and a credit leave 25.50 below 0.
pub record AddUp : Type 0 where
  pub cards :
      postings_of chart_lines sales 0 1 0 first_cards
      ≡ posting Card 1 (pos 4795) ∷ posting Card 2 (pos 21540) ∷ posting Card 3 (pos 899) ∷ []
  pub cards_sum : sum_of (postings_of chart_lines sales 0 1 0 first_cards) ≡ pos 27234
  pub stands : StandsBehind chart_lines (first_cards ++ other_cards) 1 3 0 first_cards
  pub groups :
      postings_of chart_lines sales 1 4 0 (first_cards ++ other_cards)
      ≡ posting (Prog Minor Third) 3 (pos 27234) ∷ posting (Prog Minor Third) 5 (pos 16480) ∷ posting (Prog Minor Third) 6 (pos 249900) ∷ []
  pub groups_sum : sum_of (postings_of chart_lines sales 1 4 0 (first_cards ++ other_cards)) ≡ pos 293614
  pub signs :
      postings_of chart_lines balance 0 1 3 debit_and_credit ≡ posting Card 4 (pos 6000) ∷ posting Card 5 (neg_ℤ (pos 8550)) ∷ []
  pub signs_sum : sum_of (postings_of chart_lines balance 0 1 3 debit_and_credit) ≡ neg_ℤ (pos 2550)
  pub entry : posting_of credit_entry ≡ Some (posting Card 5 (neg_ℤ (pos 8550)))

-- a counter group
abbrev pub counter_group : (width number : ℕ) → Group
counter_group width number = record { width = width; number = number }

-- the lines of the digits of 215.40, which came to the group 8.1 from the columns 18 to 22 of card 2; the 0 in column 22 has none
abbrev pub digit_lines : List ℕ
digit_lines =
    codes "    row 2: SR.18 -> GE.8.1.5 (column 18 of card 2)\n"
    ++ codes "    row 1: SR.19 -> GE.8.1.4 (column 19 of card 2)\n"
    ++ codes "    row 5: SR.20 -> GE.8.1.3 (column 20 of card 2)\n"
    ++ codes "    row 4: SR.21 -> GE.8.1.2 (column 21 of card 2)\n"

-- a line that begins with the row of a digit, 1 to 9; none of 0
pub data IsLabelled : (digit : ℕ) → List ℕ → Type 0 where
  no_label : IsLabelled 0 []
  label : (digit : ℕ) (rest : List ℕ) → 1 ≤ digit → IsLabelled digit (digit_label (row_of digit) ++ rest ++ codes "\n")

-- The 2 of 215.40 stands at position 5, and the 0 at position 1. Of eight digits four have lines. The group 8.1 has place 24, and above the
-- three positions of the group 3.1 it has the position 4 of both. Each line that is told of a digit begins with its row, and only a 0 has an
-- empty one.
pub record TellDigits : Type 0 where
  pub highest : digit_of 21540 5 ≡ 2
  pub units : digit_of 21540 1 ≡ 0
  pub lines : AreRows (λ position. IsLabelled) 8 1 21540 digit_lines
  pub alone : entry_at (position_in (One 24) 5) ≡ GE (counter_group 8 1) 5
  pub coupled : entry_at (position_in (Coupled 24 0) 4) ≡ GE (counter_group 8 1) 1
  pub labels :
      (wiring : Wiring) (deck : List (List ℕ)) (passed : ℕ) (has : HasCycle wiring deck passed) (cycle : Cycle) (card : ℕ)
      (at_position : Position) (digit : ℕ) (line : List ℕ)
      → IsRowLine has cycle card at_position digit line → IsLabelled digit line
  pub some :
      (wiring : Wiring) (deck : List (List ℕ)) (passed : ℕ) (has : HasCycle wiring deck passed) (cycle : Cycle) (card : ℕ)
      (at_position : Position) (digit : ℕ)
      → IsRowLine has cycle card at_position digit [] → digit ≡ 0
