-- Why a line stands where it stands: how far it is from the line that the run placed before it, and what the carriage is asked for in the
-- cycles of the two lines.
use Rattle.std.specs.Prelude.{◌≡◌, ℕ, ◌-◌, ◌==◌, nat_lt, List, [], ◌∷◌, ◌++◌, Option, Some, None, codes, decimal, if◌then◌else◌}
use Rattle.explain_ledgers.specs.LedgersWords.LedgerText.Names.{cycle_text}
use Rattle.explain_ledgers.specs.LedgersWords.Ledgers.{Along, Goes, along_after, along_at_start}
use Rattle.explain_ledgers.specs.declared.ledgers.found.FoundCycle.{FoundCycle}
use Rattle.machine.specs.Cycles.{line_of}
use Rattle.machine.specs.Machine.{MachineState, ended}
use Rattle.net.specs.Cycles.{ordinal_number}
use Rattle.net.specs.declared.cycle.Cycle.{Cycle}
use Rattle.net.specs.declared.cycle.Cycle.TheVariants.{RunIn, Card, Prog, Head}
use Rattle.page_text.specs.declared.placed_lines.placed_line.PlacedLine.{PlacedLine}
use Rattle.hubs.specs.SetupsWords.Wiring.{Wiring}
use Rattle.explain_origins.specs.Asks.{overflow_words, page_words, skip_words, spacing_words}
use Rattle.explain_origins.specs.Changes.{passed_cycle}
use Rattle.explain_origins.specs.declared.changes.PassedCycle.{PassedCycle}

-- this cycle and the line that it placed, if it placed one, else the last one that did
abbrev pub line_with : PassedCycle → List PlacedLine → Option FoundCycle → Option FoundCycle
line_with here [] last = last
line_with here (line ∷ others) last = Some (record { passed = here.passed; cycle = here.cycle; card = here.card; line = line })

-- The last line that the cycles up to a place of a run placed; none if none did.
pub data IsLastLine (wiring : Wiring) (deck : List (List ℕ)) : Along → Option FoundCycle → Type 0 where
  unprinted : IsLastLine wiring deck (along_at_start wiring deck) None
  printed :
      (cycle : Cycle) (along : Along) (last : Option FoundCycle) (behind : MachineState)
      → IsLastLine wiring deck along last
      → Goes wiring cycle along behind
      → IsLastLine wiring deck (along_after cycle behind along) (line_with (passed_cycle cycle along) (line_of (ended behind cycle)) last)

-- It is the last one before the cycle behind so many others.
pub record IsLineBefore (wiring : Wiring) (deck : List (List ℕ)) (passed : ℕ) (last : Option FoundCycle) : Type 0 where
  pub along : Along
  pub counted : along.passed ≡ passed
  pub is : IsLastLine wiring deck along last

-- which cycle placed a line: a page has each heading once
abbrev pub named : Cycle → (card : ℕ) → List ℕ
named RunIn card = cycle_text RunIn card
named Card card = cycle_text Card card
named (Prog level ordinal) card = cycle_text (Prog level ordinal) card
named (Head heading) card = codes "Head " ++ decimal (ordinal_number heading)

abbrev pub by_words : FoundCycle → List ℕ
by_words before = codes " (" ++ named before.cycle before.card ++ codes ")"

-- how far a line is from the first line of the form
abbrev pub first_words : (first line : ℕ) → List ℕ
first_words first line =
    if line == first
    then codes "at the first line"
    else if nat_lt line first
    then codes "above the first line " ++ decimal first
    else decimal (line - first) ++ codes " below the first line " ++ decimal first

-- how far it is from the line before it, on the same page
abbrev pub below_words : FoundCycle → (line : ℕ) → List ℕ
below_words before line = decimal (line - before.line.line) ++ codes " below line " ++ decimal before.line.line ++ by_words before

-- the line before it, on another page
abbrev pub behind_words : FoundCycle → List ℕ
behind_words before =
    codes ", behind line " ++ decimal before.line.line ++ codes " of page " ++ decimal before.line.page ++ by_words before

-- why no line of that page follows it
abbrev pub turn_words : Wiring → FoundCycle → List ℕ
turn_words wiring before =
    skip_words wiring before.cycle before.line.line ++ overflow_words wiring before.cycle before.line.line
    ++ page_words wiring before.cycle

-- where a line without one before it stands, and why
abbrev pub begun_words : Wiring → FoundCycle → List ℕ
begun_words wiring found = first_words wiring.tape.first found.line.line ++ spacing_words wiring found.cycle

-- with one on the same page
abbrev pub below_reason : Wiring → (before found : FoundCycle) → List ℕ
below_reason wiring before found =
    below_words before found.line.line ++ spacing_words wiring found.cycle ++ skip_words wiring before.cycle before.line.line

-- with one on another page
abbrev pub behind_reason : Wiring → (before found : FoundCycle) → List ℕ
behind_reason wiring before found = begun_words wiring found ++ behind_words before ++ turn_words wiring before

abbrev pub standing_words : Wiring → Option FoundCycle → FoundCycle → List ℕ
standing_words wiring None found = begun_words wiring found
standing_words wiring (Some before) found =
    if before.line.page == found.line.page then below_reason wiring before found else behind_reason wiring before found

-- which line it is
abbrev pub line_words : PlacedLine → List ℕ
line_words line = codes "line " ++ decimal line.line ++ codes " of page " ++ decimal line.page ++ codes " stands "

-- Why the line of a cycle stands where it stands, by the last line before it.
abbrev pub placing_line : Wiring → Option FoundCycle → FoundCycle → List ℕ
placing_line wiring before found = line_words found.line ++ standing_words wiring before found ++ codes "\n"

-- a text, and behind it why the line of a cycle stands where it stands
pub record IsPlacing (wiring : Wiring) (cards : List (List ℕ)) (found : FoundCycle) (old new : List ℕ) : Type 0 where
  pub before : Option FoundCycle
  pub is_before : IsLineBefore wiring cards found.passed before
  pub line : new ≡ old ++ placing_line wiring before found
