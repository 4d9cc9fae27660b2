-- What is listed of a chart, and what is told. What is written is known where the writer tells what it holds.
use Rattle.std.specs.Prelude.{◌≡◌, ℕ, List, [], ◌++◌, Option, Some, ◌⊎◌, codes, slice_get, AllPairs}
use Rattle.std.specs.Io.KnownBytes.{Appends}
use Rattle.allocate.specs.Exceeded.{FitsMachine, HasCapacityFault, in_order}
use Rattle.allocate.specs.declared.fault.CapacityFault.{CapacityFault}
use Rattle.capacity.specs.Capacities.{standard}
use Rattle.fault_lists.specs.CapacityFaults.AllOver.{AreAllOver}
use Rattle.chart_lines.specs.ChartsWords.Chart.{Chart}
use Rattle.chart_plans.specs.WantedWords.Wanted.{wanted_of}
use Rattle.fault_chart_words.specs.Listed.{BeginsAsChecked, ComesBefore, HasAllListed, IsFirstByRule}
use Rattle.fault_chart_words.specs.declared.listing.BrokenRule.{BrokenRule}
use Rattle.chart_rules.specs.Rules.{IsFirstBroken, IsLawful, rule_number}
use Rattle.chart_rules.specs.declared.rule.Rule.{Rule}
use Rattle.chart_text.specs.ChartText.{Reads}
use Rattle.chart_text.specs.TextFaults.{HasTextFault}
use Rattle.chart_text.specs.declared.fault.TextFault.{TextFault}
use Rattle.chart_text.specs.declared.fault.TextFault.TheVariants as text
use Rattle.fault_chart_words.specs.FaultWords.Entries.{entries_text}
use Rattle.fault_lists.specs.MisreadLines.Misread.{AreMisread}
use Rattle.fault_lines.specs.FaultsWords.ChartCauses.{of_text}
use Rattle.fault_lines.specs.FaultsWords.ToldFaults.{capacity_told, chart_told}
use Rattle.fault_lines.specs.declared.faults.fault.Fault.{Fault}
use Rattle.fault_lines.specs.declared.faults.fault.Fault.TheVariants as told
use Rattle.fault_lists.specs.Behind.{TellsRest}
use Rattle.fault_lists.specs.CapacityEntries.{capacities_text}
use Rattle.fault_lists.specs.TextEntries.{text_entry}

-- the text is a chart that breaks no rule and fits the standard machine
pub record HasGoodChart (text : List ℕ) : Type 0 where
  pub chart : Chart
  pub reads : Reads text chart
  pub lawful : IsLawful chart
  pub fits : FitsMachine (wanted_of chart.lines) standard

-- such a text, and `ok` was written after what was there
pub record AnswersOk (text : List ℕ) (old new : Option (List ℕ)) : Type 0 where
  pub good : HasGoodChart text
  pub written : Appends old new (codes "ok\n")

-- the rules that the chart of a text breaks are listed, all of them and in order; the fault that is told is the first of the list by
-- the rules' numbers
pub record ListsRules (text : List ℕ) (old new : Option (List ℕ)) (fault : Fault) : Type 0 where
  pub chart : Chart
  pub reads : Reads text chart
  pub list : List BrokenRule
  pub all : HasAllListed chart list
  pub ordered : AllPairs ComesBefore list
  pub rule : Rule
  pub line : ℕ
  pub broken : IsFirstBroken chart rule line
  pub first : IsFirstByRule list (record { line = line; rule = rule })
  pub is_told : fault ≡ told.Line (rule_number rule) line
  pub written : Appends old new (entries_text text chart list)

-- what is listed behind the entry of a fault of a text: behind lines that are none of a chart, what is wrong besides
abbrev pub TellsBehind : (source lines : List ℕ) → TextFault → List ℕ → Type 0
TellsBehind source lines (text.NotALine line) rest = TellsRest source lines rest
TellsBehind source lines other rest = rest ≡ []

-- so it was written
pub record WritesBehind (source lines : List ℕ) (cause : TextFault) (old new : Option (List ℕ)) : Type 0 where
  pub rest : List ℕ
  pub tells : TellsBehind source lines cause rest
  pub written : Appends old new rest

-- behind the entry itself
pub record WritesText (source lines : List ℕ) (cause : TextFault) (old new : Option (List ℕ)) : Type 0 where
  pub rest : List ℕ
  pub tells : TellsBehind source lines cause rest
  pub written : Appends old new (text_entry source lines cause ++ rest)

-- the fault of a text is listed and told; where a line is none of a chart, all lines that are none are listed, and behind them what is wrong
-- besides
pub record ListsText (text : List ℕ) (old new : Option (List ℕ)) (fault : Fault) : Type 0 where
  pub cause : TextFault
  pub at_fault : HasTextFault text cause
  pub lines : List ℕ
  pub misread : AreMisread 500 text lines
  pub is_told : fault ≡ chart_told (of_text cause)
  pub rest : List ℕ
  pub behind : TellsBehind text lines cause rest
  pub written : Appends old new (text_entry text lines cause ++ rest)

-- the capacities that the chart of a text exceeds are listed, all of them and in order, and the first is told
pub record ListsCapacity (text : List ℕ) (old new : Option (List ℕ)) (fault : Fault) : Type 0 where
  pub chart : Chart
  pub reads : Reads text chart
  pub lawful : IsLawful chart
  pub cause : CapacityFault
  pub exceeds : HasCapacityFault (wanted_of chart.lines) standard cause
  pub all : List CapacityFault
  pub are_all : AreAllOver (wanted_of chart.lines) standard in_order all
  pub first : slice_get all 0 ≡ Some cause
  pub is_told : fault ≡ capacity_told cause
  pub written : Appends old new (capacities_text text chart.lines (wanted_of chart.lines).totals (wanted_of chart.lines).parts all)

-- Memory or the output is told of. Of what was written by then nothing is said.
abbrev pub IsBrokenOff : Fault → Type 0
IsBrokenOff fault = (fault ≡ told.Memory) ⊎ (fault ≡ told.Write)

-- The answer is not `ok`: the text, a rule or a capacity is at fault and all of that is listed, or the list broke off.
pub data EndsListing (text : List ℕ) (old new : Option (List ℕ)) (fault : Fault) : Type 0 where
  by_text : ListsText text old new fault → EndsListing text old new fault
  by_rules : ListsRules text old new fault → EndsListing text old new fault
  by_capacity : ListsCapacity text old new fault → EndsListing text old new fault
  broken_off : IsBrokenOff fault → EndsListing text old new fault

-- the rules that a chart breaks were listed
pub record HasListed (text : List ℕ) (chart : Chart) (old new : Option (List ℕ)) : Type 0 where
  pub list : List BrokenRule
  pub all : HasAllListed chart list
  pub ordered : AllPairs ComesBefore list
  pub begins : BeginsAsChecked chart list
  pub written : Appends old new (entries_text text chart list)

-- the capacities that a chart exceeds were listed and the first is told, or the list broke off
abbrev pub EndsCapacity : (text : List ℕ) → Chart → (old new : Option (List ℕ)) → Fault → Type 0
EndsCapacity text chart old new fault =
    IsBrokenOff fault
    ⊎ ((cause : CapacityFault) × HasCapacityFault (wanted_of chart.lines) standard cause × (fault ≡ capacity_told cause)
    × ((all : List CapacityFault) × AreAllOver (wanted_of chart.lines) standard in_order all
    × Appends old new (capacities_text text chart.lines (wanted_of chart.lines).totals (wanted_of chart.lines).parts all)))
