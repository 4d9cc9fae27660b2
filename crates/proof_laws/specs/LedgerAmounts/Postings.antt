-- Postings: what comes to a total of a chart, by the report, and what an entry of a ledger tells of it.
use Rattle.std.specs.Prelude.{ℕ, zero, suc, ◌+◌, ℤ, pos, ◌+ℤ◌, true, false, List, [], ◌∷◌, Option, Some, None, length}
use Rattle.chart_lines.specs.declared.charts.chart.Line.{Line}
use Rattle.chart_lines.specs.declared.charts.statement.Field.{Field}
use Rattle.explain_ledgers.specs.declared.ledgers.entry.Change.{Change}
use Rattle.explain_ledgers.specs.declared.ledgers.entry.Change.TheVariants.{Plus, Minus, Turned, Carry, Apart}
use Rattle.explain_ledgers.specs.declared.ledgers.entry.Entry.{Entry}
use Rattle.net.specs.declared.cycle.Cycle.{Cycle}
use Rattle.net.specs.declared.cycle.Cycle.TheVariants.{Card, Prog}
use Rattle.net.specs.declared.cycle.Ordinal.TheVariants.{Third}
use Rattle.net.specs.declared.cycle.ProgramLevel.{ProgramLevel}
use Rattle.net.specs.declared.cycle.ProgramLevel.TheVariants.{Minor, Intermediate, Major, Final}
use Rattle.report_definition.specs.Amounts.{signed, value_of}
use Rattle.report_definition.specs.Groups.{groups_in}
use Rattle.report_definition.specs.Totals.{total_of}

-- A posting: in which cycle an amount comes to a total, how many cards were read then, and the amount with its sign.
pub record Posting : Type 0 where
  pub cycle : Cycle
  pub card : ℕ
  pub amount : ℤ

-- the posting of an entry, by its change: none unless a number was added or subtracted
abbrev pub posted_by : Change → Cycle → (card entered : ℕ) → Option Posting
posted_by Plus cycle card entered = Some (record { cycle = cycle; card = card; amount = signed false entered })
posted_by Minus cycle card entered = Some (record { cycle = cycle; card = card; amount = signed true entered })
posted_by Turned cycle card entered = None
posted_by Carry cycle card entered = None
posted_by Apart cycle card entered = None

-- the posting that an entry of a ledger tells
abbrev pub posting_of : Entry → Option Posting
posting_of entry = posted_by entry.change entry.cycle entry.card entry.entered

-- the posting of the card with a number: the value of its amount, in its card cycle
abbrev pub card_posting : Field → (number : ℕ) → List ℕ → Posting
card_posting field number card = record { cycle = Card; card = number; amount = value_of field card }

-- the postings of cards behind so many others
abbrev pub card_postings : Field → (before : ℕ) → List (List ℕ) → List Posting
card_postings field before [] = []
card_postings field before (card ∷ cards) = card_posting field (before + 1) card ∷ card_postings field (before + 1) cards

-- the program level with a number, 1 to 4
abbrev pub program_level : ℕ → ProgramLevel
program_level (suc zero) = Minor
program_level (suc (suc zero)) = Intermediate
program_level (suc (suc (suc zero))) = Major
program_level other = Final

-- the posting of a group of a level, of which the last card has a number: its total, in the third program cycle of the level
abbrev pub group_posting : Field → (level last : ℕ) → List (List ℕ) → Posting
group_posting field level last group = record { cycle = Prog (program_level level) Third; card = last; amount = total_of field group }

-- the postings of groups of a level behind so many cards
abbrev pub group_postings : Field → (level before : ℕ) → List (List (List ℕ)) → List Posting
group_postings field level before [] = []
group_postings field level before (group ∷ groups) =
    group_posting field level (before + length group) group ∷ group_postings field level (before + length group) groups

-- What comes to the total of an amount for a group of a level, behind so many cards. If there is no lower total, it is what each card
-- of the group has; else it is the total of each group of the next lower total's level in the group.
abbrev pub postings_of : List Line → Field → (lower level before : ℕ) → List (List ℕ) → List Posting
postings_of lines field zero level before group = card_postings field before group
postings_of lines field (suc under) level before group =
    group_postings field (suc under) before (groups_in lines level (suc under) group)

-- the sum of postings
abbrev pub sum_of : List Posting → ℤ
sum_of [] = pos 0
sum_of (posting ∷ others) = posting.amount +ℤ sum_of others
