-- The ledger of a total of a chart before the total is printed.
use Rattle.std.specs.Prelude.{◌≡◌, ℕ, ◌+◌, ◌≤◌, true, false, List, [], ◌∷◌, ◌++◌, Some, All, is_some, length, map, unsigned_abs}
use Rattle.std.specs.Int.{is_negative}
use Rattle.chart_rules.specs.ValidCard.{IsValidCard}
use Rattle.chart_lines.specs.ChartsWords.Chart.{Chart, NumbersRise}
use Rattle.chart_lines.specs.ChartsWords.Literals.{HaveLiteralTexts}
use Rattle.chart_lines.specs.declared.charts.chart.Line.{Line}
use Rattle.chart_lines.specs.declared.charts.statement.Field.{Field}
use Rattle.explain_ledgers.specs.LedgersWords.Ledgers.{Along, Goes, IsLedger}
use Rattle.explain_ledgers.specs.LedgersWords.Running.{IsKeptLedger, PlacesLine}
use Rattle.explain_ledgers.specs.LedgersWords.Summaries.{Summary, summary_of}
use Rattle.explain_ledgers.specs.declared.ledgers.account.Account.{Account}
use Rattle.explain_ledgers.specs.declared.ledgers.entry.Change.TheVariants.{Turned}
use Rattle.explain_ledgers.specs.declared.ledgers.entry.Entry.{Entry}
use Rattle.explain_ledgers.specs.declared.ledgers.found.FoundCycle.{FoundCycle}
use Rattle.machine.specs.Machine.{MachineState, ended}
use Rattle.net.specs.Cycles.{level_number}
use Rattle.net.specs.declared.cycle.Cycle.TheVariants.{Prog}
use Rattle.net.specs.declared.cycle.Ordinal.TheVariants.{Second, Third}
use Rattle.net.specs.declared.cycle.ProgramLevel.{ProgramLevel}
use Rattle.chart_plans.specs.PlansWords.Plans.{Lists}
use Rattle.chart_plans.specs.declared.plans.counter.TotalCounter.{TotalCounter}
use Rattle.report_definition.specs.BodyLines.{total_line as total_text}
use Rattle.report_definition.specs.Outline.{OutlineLine, Detail, Total, outline_of}
use Rattle.report_definition.specs.Totals.{Fits, total_of}
use Rattle.hubs.specs.SetupsWords.Wiring.{Wiring}
use Rattle.proof_cycles.specs.TotalsWords.Amounts.{lower}
use Rattle.explain_wheel_ledgers.specs.ToldLedgers.{account_told}
use Rattle.explain_wheel_ledgers.specs.Totals.{account_of, find_total, has_place, totals_in}
use Rattle.proof_reports.specs.WiredPanels.Groups.{IsCounterOf}
use Rattle.proof_reports.specs.WiredPanels.Panel.{IsPanel}
use Rattle.wiring_table.specs.Figures.{IsAmount}
use Rattle.wiring_table.specs.Parts.{total_line}
use Rattle.proof_laws.specs.LedgerAmounts.Postings.{posting_of, postings_of, sum_of}

-- how many cards the lines of an outline tell of
abbrev pub cards_in : List OutlineLine → ℕ
cards_in [] = 0
cards_in (Detail opens card ∷ others) = cards_in others + 1
cards_in (Total level group ∷ others) = cards_in others

-- In the outline of a deck's report the total line of a group stands behind so many cards; the last of these are the cards of the group, and
-- so many stand before them.
pub record StandsBehind (lines : List Line) (deck : List (List ℕ)) (level count before : ℕ) (group : List (List ℕ)) : Type 0 where
  pub earlier : List OutlineLine
  pub later : List OutlineLine
  pub outline : outline_of lines deck ≡ earlier ++ (Total level group ∷ later)
  pub counted : cards_in earlier ≡ count
  pub front : List (List ℕ)
  pub rest : List (List ℕ)
  pub cards : deck ≡ (front ++ group) ++ rest
  pub many : length front ≡ before
  pub all : before + length group ≡ count

-- the level of the next lower total of the amount of a name, and 0 if there is none
abbrev pub lower_level : List Line → List ℕ → ℕ → ℕ
lower_level lines name level = lower (λ other. is_some (total_line lines name other)) level

-- What stands behind the amounts in the ledger of a total: nothing, or the entry of the second program cycle, in which the number was
-- turned.
pub data IsTurn (level : ProgramLevel) (card : ℕ) : List Entry → Type 0 where
  no_turn : IsTurn level card []
  one_turn : (entry : Entry) → entry.cycle ≡ Prog level Second → entry.card ≡ card → entry.change ≡ Turned → IsTurn level card (entry ∷ [])

-- Before the third program cycle of a level, by how many cards were read, and by the text of the line that it prints: the entries of a ledger
-- are what comes to the total of an amount for the group of the level that ends with the last card, and they add up to the total of that
-- group. A total below 0 was turned, one above 0 wasn't, and one of 0 may have been, since it can stand as all nines. The line is the total
-- line of the group.
pub record TellsAmounts (lines : List Line) (deck : List (List ℕ)) (name : List ℕ) (field : Field) (level : ProgramLevel) (count : ℕ)
    (text : List ℕ) (entries : List Entry) : Type 0 where
  pub group : List (List ℕ)
  pub before : ℕ
  pub stands : StandsBehind lines deck (level_number level) count before group
  pub printed : text ≡ total_text lines (level_number level) group
  pub added : List Entry
  pub turned : List Entry
  pub whole : entries ≡ added ++ turned
  pub amounts : map posting_of added
      ≡ map Some (postings_of lines field (lower_level lines name (level_number level)) (level_number level) before group)
  pub adds_up : sum_of (postings_of lines field (lower_level lines name (level_number level)) (level_number level) before group)
      ≡ total_of field group
  pub is_turn : IsTurn level count turned
  pub below_zero : is_negative (total_of field group) ≡ true → turned ≡ [] → ⊥
  pub above_zero : is_negative (total_of field group) ≡ false → 1 ≤ unsigned_abs (total_of field group) → turned ≡ []

-- For every chart that breaks no rule, whose line numbers rise and whose literals can be printed, as in every chart that is read, every
-- setup that is wired for it by a plan of it, every deck of valid cards whose totals fit, each total of the chart, and each cycle of the run
-- that prints it: the ledger of the groups that serve the total tells the amounts of the report.
abbrev pub LedgersAreAmounts : Type 0
LedgersAreAmounts =
    (chart : Chart) (plan : Lists) (wiring : Wiring) (deck : List (List ℕ)) (name : List ℕ) (field : Field) (level : ProgramLevel)
    (counter : TotalCounter) (account : Account) (along : Along) (behind : MachineState) (entries : List Entry)
    → IsPanel chart plan wiring → NumbersRise chart.lines chart.end → HaveLiteralTexts chart.lines
    → All (IsValidCard chart) deck → Fits chart.lines deck
    → IsAmount chart.lines name field → IsCounterOf chart.lines plan name (level_number level) counter
    → account_of counter ≡ Some account
    → IsLedger wiring deck account along entries → Goes wiring (Prog level Third) along behind
    → TellsAmounts chart.lines deck name field level along.card (ended behind (Prog level Third)).wheels.line entries

-- So it is with what is kept of the ledger that is told for one of these groups, before a cycle that placed a line: the entries of that ledger
-- are the amounts of the group whose total line it is.
abbrev pub KeptLedgersAreAmounts : Type 0
KeptLedgersAreAmounts =
    (chart : Chart) (plan : Lists) (wiring : Wiring) (deck : List (List ℕ)) (name : List ℕ) (field : Field) (level : ProgramLevel)
    (counter : TotalCounter) (account : Account) (place ends : ℕ) (found : FoundCycle) (told : Summary)
    → IsPanel chart plan wiring → NumbersRise chart.lines chart.end → HaveLiteralTexts chart.lines
    → All (IsValidCard chart) deck → Fits chart.lines deck
    → IsAmount chart.lines name field → IsCounterOf chart.lines plan name (level_number level) counter
    → account_of counter ≡ Some account → has_place account place ≡ true
    → PlacesLine wiring deck found → found.cycle ≡ Prog level Third
    → IsKeptLedger wiring deck found.passed ends (account_told (find_total (totals_in chart.lines plan chart.lines) place) place) told
    → (entries : List Entry)
    × (told ≡ summary_of account ends entries)
    × TellsAmounts chart.lines deck name field level found.card found.line.text entries
