-- The smallest chart compiles: its text has none of the faults of a chart.
use Rattle.std.proofs.Common.{◌≡◌, ◌≢◌, ◌∙◌, refl, sym, ap, subst, arith, zero, suc, false, List, [], ◌∷◌, ℕ, Ok, codes}
use Rattle.allocate.proofs.Exclusions.{fitting_charts_have_no_fault}
use Rattle.allocate.specs.Exceeded.{FitsMachine, HasCapacityFault}
use Rattle.chart_lines.specs.Below.card_code.CardCode.{code, rows_of}
use Rattle.chart_lines.specs.Below.card_code.Lines.{lines_of}
use Rattle.chart_lines.specs.ChartsWords.Chart.{Chart}
use Rattle.chart_lines.specs.declared.charts.chart.Line.{Line}
use Rattle.chart_lines.specs.declared.charts.chart.Version.TheVariants.{Second}
use Rattle.chart_lines.specs.declared.charts.level.ControlLevel.TheVariants as control
use Rattle.chart_lines.specs.declared.charts.level.Level.TheVariants.{Final}
use Rattle.chart_lines.specs.declared.charts.statement.Printing.TheVariants.{Group}
use Rattle.chart_lines.specs.declared.charts.statement.Statement.TheVariants as says
use Rattle.compile407.specs.ChartFaults.{HasChartFault}
use Rattle.fault_lines.proofs.Below.chart_text.ChartGrammar.{no_chart, one_chart, reads_is}
use Rattle.fault_lines.specs.Below.chart_text.ChartText.{Reads}
use Rattle.fault_lines.specs.Below.chart_text.HelperForms.{form_of, print_of, said_of, statement_of, total_literal_of, total_statement}
use Rattle.fault_lines.specs.Below.chart_text.HelperText.{chart_from, chart_of, content_of}
use Rattle.fault_lines.specs.Below.chart_text.HelperWords.{level_of, literal_of}
use Rattle.fault_lines.specs.Below.chart_text.declared.fault.TextFault.TheVariants as text
use Rattle.fault_lines.specs.declared.faults.chart.ChartFault.{ChartFault}
use Rattle.fault_lines.specs.declared.faults.chart.ChartFault.TheVariants as chart
use Rattle.chart_plans.proofs.Below.chart_rules.Lowest.{IsKept-passes, PassesBefore}
use Rattle.chart_plans.specs.Below.capacity.Capacities.{standard}
use Rattle.chart_plans.specs.Below.chart_rules.Rules.{Broken, IsKept, IsLawful, breaks_at, lacks}
use Rattle.chart_plans.specs.Below.chart_rules.declared.rule.Rule.{Rule}
use Rattle.chart_plans.specs.Below.chart_rules.declared.rule.Rule.TheVariants as rule
use Rattle.chart_plans.specs.WantedWords.Counts.{count_wanted}
use Rattle.chart_plans.specs.WantedWords.Pilots.{wants_pilot}
use Rattle.chart_plans.specs.WantedWords.Positions.{field_used, positions_for}
use Rattle.chart_plans.specs.WantedWords.Totals.{wanted_at}
use Rattle.chart_plans.specs.WantedWords.Units.{is_of_kind}
use Rattle.chart_plans.specs.WantedWords.Wanted.{wanted_of}
use Rattle.chart_plans.specs.declared.wanted.count.Capacity.{Capacity}
use Rattle.chart_plans.specs.declared.wanted.count.Capacity.TheVariants as capacity
use Rattle.chart_lines.specs.TokensWords.Dividing.{tokens_from}
use Rattle.chart_lines.specs.TokensWords.NumberReading.{number_of}

-- its text
unfoldable pub smallest_text : List ℕ
smallest_text = codes "CHART407 2\nPRINT GROUP\nTOTAL 4 1 ' '\nFORM 12 1 9\nEND\n"

-- its lines: it prints a blank line behind the last card
abbrev printing : Line
printing = record { number = 2; statement = says.Print Group }

abbrev blank : Line
blank = record { number = 3; statement = says.TotalLiteral Final 1 (codes " ") }

abbrev form : Line
form = record { number = 4; statement = says.Form 12 1 9 }

abbrev smallest : Chart
smallest = record { version = Second; lines = printing ∷ blank ∷ form ∷ []; coupled = []; end = 5 }

its_chart : chart_of smallest_text ≡ Ok smallest
unfolding smallest_text chart_of chart_from content_of lines_of tokens_from number_of said_of statement_of print_of total_statement total_literal_of form_of level_of literal_of rows_of code
its_chart = refl

reads : Reads smallest_text smallest
reads = reads_is smallest_text smallest its_chart

-- none of its lines breaks a rule, and it lacks none
passes : (each : Rule)
    → (breaks_at each smallest [] printing ≡ false) × (breaks_at each smallest (printing ∷ []) blank ≡ false)
    × (breaks_at each smallest (printing ∷ blank ∷ []) form ≡ false) × (lacks each smallest.lines ≡ false)
passes rule.NameTwice = (refl, refl, refl, refl)
passes rule.Columns = (refl, refl, refl, refl)
passes rule.AmountSize = (refl, refl, refl, refl)
passes rule.UnknownName = (refl, refl, refl, refl)
passes rule.WrongKind = (refl, refl, refl, refl)
passes rule.LineTwice = (refl, refl, refl, refl)
passes rule.NoControl = (refl, refl, refl, refl)
passes rule.TotalTextNotControl = (refl, refl, refl, refl)
passes rule.DigitsRange = (refl, refl, refl, refl)
passes rule.DigitsShrink = (refl, refl, refl, refl)
passes rule.MarkMismatch = (refl, refl, refl, refl)
passes rule.WheelRange = (refl, refl, refl, refl)
passes rule.WheelOverlap = (refl, refl, refl, refl)
passes rule.WheelClash = (refl, refl, refl, refl)
passes rule.PrintKind = (refl, refl, refl, refl)
passes rule.Form = (refl, refl, refl, refl)
passes rule.Tape = (refl, refl, refl, refl)
passes rule.CoupledMark = (refl, refl, refl, refl)

by_place : (each : Rule) → PassesBefore each smallest 3
by_place each zero before line at = let e : printing ≡ line = cc in ap (breaks_at each smallest []) (sym e) ∙ (passes each).0
by_place each (suc zero) before line at =
    let e : blank ≡ line = cc in ap (breaks_at each smallest (printing ∷ [])) (sym e) ∙ (passes each).1
by_place each (suc (suc zero)) before line at =
    let e : form ≡ line = cc in ap (breaks_at each smallest (printing ∷ blank ∷ [])) (sym e) ∙ (passes each).2
by_place each (suc (suc (suc place))) before line at = absurd (omega (arith, before))

is_lawful : IsLawful smallest
unfolding IsLawful
is_lawful each = IsKept-passes each smallest 3 (by_place each) (omega arith) (passes each).3

-- it wants nothing of the machine
wants_nothing : (of_machine : Capacity) → count_wanted of_machine (wanted_of smallest.lines) ≡ 0
unfolding wanted_at wants_pilot positions_for field_used is_of_kind
wants_nothing (capacity.Counters width) = refl
wants_nothing capacity.Pilots = refl
wants_nothing capacity.Comparing = refl
wants_nothing capacity.StorageWidth = refl
wants_nothing capacity.StorageUnits = refl
wants_nothing capacity.Splits = refl
wants_nothing (capacity.Indicate control.Minor) = refl
wants_nothing (capacity.Indicate control.Intermediate) = refl
wants_nothing (capacity.Indicate control.Major) = refl

fits : FitsMachine (wanted_of smallest.lines) standard
unfolding FitsMachine
fits place of_machine before at over = absurd (omega (arith, over, wants_nothing of_machine))

no_fault : (fault : ChartFault) → HasChartFault smallest_text fault → ⊥
unfolding IsLawful IsKept
no_fault chart.TooLarge has = no_chart smallest_text smallest text.TooLarge has reads
no_fault chart.NoFirstLine has = no_chart smallest_text smallest text.NoFirstLine has reads
no_fault (chart.NotALine line) has = no_chart smallest_text smallest (text.NotALine line) has reads
no_fault chart.NoEnd has = no_chart smallest_text smallest text.NoEnd has reads
no_fault (chart.Rule broken line) has =
    let P : Chart → Type 0 = λ each. Broken broken each line in
    is_lawful broken line (subst P (one_chart smallest_text has.read smallest has.reads reads) has.first.broken)
no_fault (chart.Capacity fault) has =
    let P : Chart → Type 0 = λ each. HasCapacityFault (wanted_of each.lines) standard fault in
    fitting_charts_have_no_fault (wanted_of smallest.lines) standard fault fits
    (subst P (one_chart smallest_text has.read smallest has.reads reads) has.exceeds)
no_fault chart.Memory has = has

other : (bytes : List ℕ) (fault : ChartFault) → bytes ≡ smallest_text → HasChartFault bytes fault → fault ≡ chart.Memory
other bytes fault same has = absurd (no_fault fault (subst (λ (its : List ℕ). HasChartFault its fault) same has))

-- so only memory can be wanting for it
pub memory_alone : (bytes : List ℕ) (fault : ChartFault) → bytes ≡ smallest_text → (fault ≢ chart.Memory → HasChartFault bytes fault)
    → fault ≡ chart.Memory
memory_alone bytes chart.Memory same has = refl
memory_alone bytes chart.TooLarge same has = other bytes chart.TooLarge same (has (λ is. cc))
memory_alone bytes chart.NoFirstLine same has = other bytes chart.NoFirstLine same (has (λ is. cc))
memory_alone bytes (chart.NotALine line) same has = other bytes (chart.NotALine line) same (has (λ is. cc))
memory_alone bytes chart.NoEnd same has = other bytes chart.NoEnd same (has (λ is. cc))
memory_alone bytes (chart.Rule broken line) same has = other bytes (chart.Rule broken line) same (has (λ is. cc))
memory_alone bytes (chart.Capacity fault) same has = other bytes (chart.Capacity fault) same (has (λ is. cc))
