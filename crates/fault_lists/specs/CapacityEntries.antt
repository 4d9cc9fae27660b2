-- The entries of capacities that a chart exceeds.
use Rattle.std.specs.Prelude.{ℕ, ◌==◌, Bool, List, [], ◌++◌, Option, Some, None, codes, decimal, if◌then◌else◌}
use Rattle.std.specs.List.{flat_map, list_any}
use Rattle.allocate.specs.declared.fault.CapacityFault.{CapacityFault}
use Rattle.allocate.specs.declared.fault.CapacityFault.TheVariants as exceeded
use Rattle.chart_lines.specs.ChartsWords.Levels.{control_number}
use Rattle.chart_lines.specs.ChartsWords.Name.{is_same_name}
use Rattle.chart_lines.specs.declared.charts.chart.Line.{Line}
use Rattle.chart_lines.specs.declared.charts.level.ControlLevel.{ControlLevel}
use Rattle.chart_lines.specs.declared.charts.statement.DetailOption.TheVariants.{Indicated}
use Rattle.chart_lines.specs.declared.charts.statement.Statement.{Statement}
use Rattle.chart_lines.specs.declared.charts.statement.Statement.TheVariants as says
use Rattle.fault_lines.specs.FaultsWords.Lines.{fault_line}
use Rattle.fault_lines.specs.FaultsWords.ToldFaults.{capacity_told}
use Rattle.fault_slips.specs.Below.card_code.Deck.{line_at}
use Rattle.fault_slips.specs.LineMarks.Entries.{below, shown}
use Rattle.fault_slips.specs.LineMarks.Spans.{span_of}
use Rattle.chart_plans.specs.WantedWords.Totals.{is_at_least, takes_two}
use Rattle.chart_plans.specs.WantedWords.Wanted.{Parts}
use Rattle.chart_plans.specs.declared.wanted.total.Total.{Total}

-- what is wrong where a capacity is exceeded
abbrev pub capacity_words : CapacityFault → List ℕ
capacity_words (exceeded.Counters width wanted there) = codes "the totals want more counter groups of this width or a larger one than there are"
capacity_words (exceeded.Pilots wanted there) = codes "more amounts with a sign column are printed than the machine has pilots"
capacity_words (exceeded.Comparing wanted there) = codes "the CONTROL lines name more columns than the machine compares"
capacity_words (exceeded.StorageWidth line) = codes "the text on this TOTAL line has more than the 16 columns of a storage unit"
capacity_words (exceeded.StorageUnits wanted there) = codes "more texts stand on TOTAL lines than the machine has storage units"
capacity_words (exceeded.Splits wanted there) = codes "more DETAIL amounts have their sign column among their own columns than the machine has splits"
capacity_words (exceeded.Indicate level wanted there) = codes "the INDICATE items of this level have more columns than the machine has positions"
capacity_words exceeded.Memory = []

-- what helps
abbrev pub cure : CapacityFault → List ℕ
cure (exceeded.Counters width wanted there) =
    codes "print a total in fewer digits, or drop one: a total needs a position for each digit, and one more with a sign column"
cure (exceeded.Pilots wanted there) = codes "drop the sign column of amounts that are never negative, or print fewer of them"
cure (exceeded.Comparing wanted there) = codes "shorten a control field to the columns that tell its groups apart, or drop a level"
cure (exceeded.StorageWidth line) = codes "describe the columns once more as a shorter FIELD, and make that the control field"
cure (exceeded.StorageUnits wanted there) = codes "print texts on the DETAIL line with INDICATE, and not on TOTAL lines"
cure (exceeded.Splits wanted there) = codes "drop the sign column of amounts that are never negative, or punch signs in a column beside the digits"
cure (exceeded.Indicate level wanted there) = codes "print some of them on every card, or shorten them"
cure exceeded.Memory = []

-- a line of a text with a number, and a mark under one of its words
abbrev pub marked : (text : List ℕ) → (number place : ℕ) → List ℕ
marked text number place = shown (line_at text number) (span_of place (line_at text number))

-- whether a need takes two groups
abbrev pub groups_words : ℕ → List ℕ
groups_words need = if takes_two need then codes ", so two groups of 8\n" else codes "\n"

-- how many positions a total needs, by its line
abbrev pub positions_words : Total → List ℕ
positions_words total =
    codes "  line " ++ decimal total.line ++ codes ", positions needed: " ++ decimal total.need ++ groups_words total.need

-- the same, and the line with a mark under the digits
abbrev pub need_words : (text : List ℕ) → Total → List ℕ
need_words text total = positions_words total ++ marked text total.line 4

-- the same where the total wants a counter group of a width or a wider one
unfoldable pub need_at : (text : List ℕ) → (width : ℕ) → Total → List ℕ
need_at text width total = if is_at_least width total.need then need_words text total else []

abbrev pub needs_at : (text : List ℕ) → (width : ℕ) → List Total → List ℕ
needs_at text width totals = flat_map (need_at text width) totals

-- the place of the name on a CONTROL line
abbrev pub control_place : Statement → Option ℕ
control_place (says.Control level name) = Some 2
control_place other = None

-- the place of the text on a TOTAL line
abbrev pub text_place : Statement → Option ℕ
text_place (says.TotalText level wheel name) = Some 3
text_place other = None

-- the place of a field that is shown on the first card of each group of a level
abbrev pub indicated_place : ControlLevel → Statement → Option ℕ
indicated_place level (says.DetailField wheel name (Indicated own)) = if control_number own == control_number level then Some 2 else None
indicated_place level other = None

-- whether an amount is one of those that pilots serve
abbrev pub is_served : (pilots : List (List ℕ)) → (name : List ℕ) → Bool
is_served pilots name = list_any (λ pilot. is_same_name name pilot) pilots

-- the place of an amount that a pilot serves, on whichever line it is printed, with a mark or without one
abbrev pub pilot_place : (pilots : List (List ℕ)) → Statement → Option ℕ
pilot_place pilots (says.DetailField wheel name option) = if is_served pilots name then Some 2 else None
pilot_place pilots (says.TotalAmount total) = if is_served pilots total.name then Some 3 else None
pilot_place pilots other = None

-- whether a line's number is one of some
abbrev pub is_among : (numbers : List ℕ) → (number : ℕ) → Bool
is_among numbers number = list_any (λ each. each == number) numbers

-- the place of an amount that a column split serves: those of a DETAIL line, told by the line's number
abbrev pub split_place : (splits : List ℕ) → (number : ℕ) → Option ℕ
split_place splits number = if is_among splits number then Some 2 else None

-- The place of the word by which a line asks for a capacity, if it does: of pilots and column splits by what these are to serve. Lines that ask
-- for counter groups are told by their totals.
abbrev pub asking_place : Parts → CapacityFault → Line → Option ℕ
asking_place parts (exceeded.Pilots wanted there) line = pilot_place parts.pilots line.statement
asking_place parts (exceeded.Comparing wanted there) line = control_place line.statement
asking_place parts (exceeded.StorageWidth number) line = if line.number == number then text_place line.statement else None
asking_place parts (exceeded.StorageUnits wanted there) line = text_place line.statement
asking_place parts (exceeded.Splits wanted there) line = split_place parts.splits line.number
asking_place parts (exceeded.Indicate level wanted there) line = indicated_place level line.statement
asking_place parts other line = None

-- a line by its number, with a mark under that word
unfoldable pub asking_text : (text : List ℕ) → (number : ℕ) → Option ℕ → List ℕ
asking_text text number None = []
asking_text text number (Some place) = (codes "  line " ++ decimal number ++ codes "\n") ++ marked text number place

abbrev pub asking_line : (text : List ℕ) → Parts → CapacityFault → Line → List ℕ
asking_line text parts fault line = asking_text text line.number (asking_place parts fault line)

-- the lines that ask for a capacity
abbrev pub lines_asking : (text : List ℕ) → Parts → CapacityFault → List Line → List ℕ
lines_asking text parts fault lines = flat_map (asking_line text parts fault) lines

-- what of a chart asks for a capacity: of counter groups the totals, and else the lines
unfoldable pub wanted_words : (text : List ℕ) → List Line → List Total → Parts → CapacityFault → List ℕ
wanted_words text lines totals parts (exceeded.Counters width wanted there) = needs_at text width totals
wanted_words text lines totals parts other = lines_asking text parts other lines

-- the entry of a capacity: the line of the fault, what is wrong, what of the chart asks for it, and what helps
abbrev pub capacity_entry : (text : List ℕ) → List Line → List Total → Parts → CapacityFault → List ℕ
capacity_entry text lines totals parts fault =
    fault_line (capacity_told fault) ++ below (capacity_words fault) ++ wanted_words text lines totals parts fault ++ below (cure fault)

-- the entries of some capacities
abbrev pub capacities_text : (text : List ℕ) → List Line → List Total → Parts → List CapacityFault → List ℕ
capacities_text text lines totals parts faults = flat_map (capacity_entry text lines totals parts) faults
