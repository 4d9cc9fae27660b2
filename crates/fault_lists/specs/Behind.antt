-- What is listed behind the lines of a text that no form derives: that END is missing, and the rules that the other lines break whatever those
-- lines say.
use Rattle.std.specs.Prelude.{◌≡◌, ℕ, Bool, true, false, ◌==◌, ◌&&◌, ◌||◌, not, List, [], ◌∷◌, ◌++◌, Option, codes, filter, AllPairs, if◌then◌else◌}
use Rattle.std.specs.Io.KnownBytes.{Appends}
use Rattle.std.specs.List.{list_any}
use Rattle.fault_chart_words.specs.Listed.{ComesBefore, HasAllListed}
use Rattle.fault_chart_words.specs.declared.listing.BrokenRule.{BrokenRule}
use Rattle.chart_rules.specs.declared.rule.Rule.{Rule}
use Rattle.chart_rules.specs.declared.rule.Rule.TheVariants as rule
use Rattle.chart_text.specs.ChartText.{Reads}
use Rattle.chart_text.specs.TextFaults.{HasTextFault}
use Rattle.chart_text.specs.declared.fault.TextFault.TheVariants as text
use Rattle.chart_lines.specs.ChartsWords.Chart.{Chart}
use Rattle.chart_lines.specs.declared.charts.chart.Line.{Line}
use Rattle.chart_lines.specs.declared.charts.statement.After.TheVariants as after
use Rattle.chart_lines.specs.declared.charts.statement.Statement.{Statement}
use Rattle.chart_lines.specs.declared.charts.statement.Statement.TheVariants as says
use Rattle.fault_lists.specs.TextEntries.{no_end_entry}
use Rattle.fault_chart_words.specs.FaultWords.Entries.{entries_text}
use Rattle.fault_chart_words.specs.FaultWords.Parts.{has_stops}
use Rattle.fault_slips.specs.Below.card_code.Deck.{line_at}
use Rattle.fault_slips.specs.LineMarks.Emptied.{emptied}
use Rattle.fault_slips.specs.LineMarks.Spans.{word}

-- a text without what stands on some lines
abbrev pub emptied_lines : List ℕ → List ℕ → List ℕ
emptied_lines [] source = source
emptied_lines (line ∷ lines) source = emptied_lines lines (emptied line source)

-- a text with END below it
abbrev pub with_end : List ℕ → List ℕ
with_end source = source ++ codes "\nEND\n"

-- whether a line asks for a TAPE line: it skips to a channel that can have stops; a TAPE line of any other channel would itself be wrong
abbrev pub asks_for_tape : Statement → Bool
asks_for_tape (says.After line (after.Skip channel)) = has_stops channel
asks_for_tape other = false

-- whether the line with a number does
abbrev pub asks_for_tape_at : List Line → ℕ → Bool
asks_for_tape_at lines number = list_any (λ line. (line.number == number) && asks_for_tape line.statement) lines

-- whether the line with a number, which breaks a rule, asks by it for another line: that may be one that has no form
abbrev pub asks_for_another : List Line → ℕ → Rule → Bool
asks_for_another lines number rule.UnknownName = true
asks_for_another lines number rule.NoControl = true
asks_for_another lines number rule.TotalTextNotControl = true
asks_for_another lines number rule.PrintKind = true
asks_for_another lines number rule.Tape = asks_for_tape_at lines number
asks_for_another lines number other = false

-- Whether a line breaks a rule whatever the lines of no form say: it asks for no other line, and the rule isn't told at END, as what is missing is.
abbrev pub is_own : Chart → BrokenRule → Bool
is_own chart broken = not (broken.line == chart.end) && not (asks_for_another chart.lines broken.line broken.rule)

-- What is told of a chart that is left: all rules that its lines break so, in order.
pub record TellsOwn (source : List ℕ) (chart : Chart) (told : List ℕ) : Type 0 where
  pub list : List BrokenRule
  pub all : HasAllListed chart list
  pub ordered : AllPairs ComesBefore list
  pub spelled : told ≡ entries_text source chart (filter (is_own chart) list)

-- so it was written
pub record ListsOwn (source : List ℕ) (chart : Chart) (old new : Option (List ℕ)) : Type 0 where
  pub told : List ℕ
  pub tells : TellsOwn source chart told
  pub written : Appends old new told

-- What is told of what is left of a text: this, if it is a chart.
pub data TellsOthers (source left told : List ℕ) : Type 0 where
  by_rules : (chart : Chart) → Reads left chart → TellsOwn source chart told → TellsOthers source left told
  nothing : ((chart : Chart) → ¬ Reads left chart) → told ≡ [] → TellsOthers source left told

-- so it was written
pub record WritesOthers (source left : List ℕ) (old new : Option (List ℕ)) : Type 0 where
  pub told : List ℕ
  pub tells : TellsOthers source left told
  pub written : Appends old new told

-- whether a word begins with the letters of END, small or capital
abbrev pub begins_as_end : List ℕ → Bool
begins_as_end (first ∷ second ∷ third ∷ others) =
    (first == 69 || first == 101) && ((second == 78 || second == 110) && (third == 68 || third == 100))
begins_as_end other = false

-- whether the first word of a line does
abbrev pub spells_end : List ℕ → Bool
spells_end line = begins_as_end (word 0 line)

-- whether one of some lines does
abbrev pub some_spells_end : List ℕ → List ℕ → Bool
some_spells_end source lines = list_any (λ line. spells_end (line_at source line)) lines

-- that END is missing, unless a line of no form was to be END
abbrev pub no_end_told : List ℕ → (lines : List ℕ) → List ℕ
no_end_told source lines = if some_spells_end source lines then [] else no_end_entry

-- so it was written, behind that END is missing
pub record WritesUnended (source lines left : List ℕ) (old new : Option (List ℕ)) : Type 0 where
  pub others : List ℕ
  pub tells : TellsOthers source (with_end left) others
  pub written : Appends old new (no_end_told source lines ++ others)

-- What is told behind the lines of no form, with what is left of the text once they are emptied: if it lacks END, that is told, and END is put below it.
pub data TellsRest (source lines told : List ℕ) : Type 0 where
  ended : ¬ HasTextFault (emptied_lines lines source) text.NoEnd → TellsOthers source (emptied_lines lines source) told → TellsRest source lines told
  unended : HasTextFault (emptied_lines lines source) text.NoEnd → (others : List ℕ)
      → TellsOthers source (with_end (emptied_lines lines source)) others → told ≡ no_end_told source lines ++ others
      → TellsRest source lines told

-- so it was written
pub record WritesRest (source lines : List ℕ) (old new : Option (List ℕ)) : Type 0 where
  pub told : List ℕ
  pub tells : TellsRest source lines told
  pub written : Appends old new told
