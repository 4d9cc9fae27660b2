-- The other line that a line meets by the rule that it breaks, and what is said of items and their wheels.
use Rattle.std.specs.Prelude.{ℕ, ◌-◌, Bool, false, List, [], ◌∷◌, ◌++◌, Option, Some, None, codes, decimal, find, nat_lt, ◌==◌, if◌then◌else◌}
use Rattle.chart_lines.specs.ChartsWords.Name.{is_same_name, name_text}
use Rattle.chart_lines.specs.declared.charts.chart.Line.{Line}
use Rattle.chart_lines.specs.declared.charts.statement.Field.{Field}
use Rattle.chart_lines.specs.declared.charts.statement.Statement.{Statement}
use Rattle.chart_lines.specs.declared.charts.statement.Statement.TheVariants as says
use Rattle.chart_line_rules.specs.FieldRules.Repeats.{breaks_line_twice}
use Rattle.chart_line_rules.specs.FieldRules.Shrink.{breaks_digits_shrink}
use Rattle.fault_slips.specs.LineSlips.Near.{is_near}
use Rattle.chart_line_rules.specs.PrintRules.Items.{item_of}
use Rattle.chart_line_rules.specs.PrintRules.Wheels.{breaks_wheel_overlap, breaks_wheel_clash}
use Rattle.chart_line_rules.specs.declared.print_rules.items.Item.{Item}
use Rattle.chart_rules.specs.declared.rule.Rule.{Rule}
use Rattle.chart_rules.specs.declared.rule.Rule.TheVariants as rule
use Rattle.fault_chart_words.specs.FaultWords.Parts.{name_on}
use Rattle.fault_chart_words.specs.declared.wording.TheConstants as wording

-- whether a line describes a name
abbrev pub describes : Option (List ℕ) → Statement → Bool
describes (Some name) (says.Field field) = is_same_name field.name name
describes name other = false

-- whether a line describes a name that is a letter away from another
abbrev pub describes_near : Option (List ℕ) → Statement → Bool
describes_near (Some name) (says.Field field) = is_near (name_text name) (name_text field.name)
describes_near name other = false

-- whether another line is one that a line meets by a rule: with that line alone it would break the rule too; by an unknown name it meets the
-- line of a name that may be meant
abbrev pub meets : Rule → List Field → Statement → Line → Bool
meets rule.NameTwice fields statement other = describes (name_on statement) other.statement
meets rule.UnknownName fields statement other = describes_near (name_on statement) other.statement
meets rule.LineTwice fields statement other = breaks_line_twice (other ∷ []) statement
meets rule.DigitsShrink fields statement other = breaks_digits_shrink (other ∷ []) statement
meets rule.WheelOverlap fields statement other = breaks_wheel_overlap fields (other ∷ []) statement
meets rule.WheelClash fields statement other = breaks_wheel_clash fields (other ∷ []) statement
meets each fields statement other = false

-- the first of some lines that a line meets
unfoldable pub met : Rule → List Field → List Line → Statement → Option Line
met each fields among statement = find (meets each fields statement) among

-- a line that is met, by its number
unfoldable pub number_words : Option Line → List ℕ
number_words None = wording.ANOTHER_LINE.now
number_words (Some line) = codes "line " ++ decimal line.number

-- what a line is about: a name, or a literal
abbrev pub named_words : Option (List ℕ) → List ℕ
named_words None = wording.THE_LITERAL.now
named_words (Some name) = name_text name

unfoldable pub subject : Statement → List ℕ
subject statement = named_words (name_on statement)

-- a number, behind the word for it
unfoldable pub one_text : List ℕ → ℕ → List ℕ
one_text word number = word ++ (codes " " ++ decimal number)

-- numbers from one to another, behind the word for one of them
unfoldable pub several_text : List ℕ → ℕ → ℕ → List ℕ
several_text word first last = word ++ (codes "s " ++ decimal first) ++ (wording.TO.now ++ decimal last)

-- both are one number or several
abbrev pub range_text : List ℕ → ℕ → ℕ → List ℕ
range_text word first last = if first == last then one_text word first else several_text word first last

-- the wheels of an item; one of a field without columns takes none
abbrev pub item_wheels : (first end : ℕ) → List ℕ
item_wheels first end =
    if nat_lt first end then range_text wording.TAKES_WHEEL.now first (end - 1) else wording.BEGINS_AT_WHEEL.now ++ decimal first

unfoldable pub wheel_words : Option Item → List ℕ
wheel_words None = []
wheel_words (Some item) = item_wheels item.first item.end

-- an item with its wheels
unfoldable pub taken_words : List Field → Statement → List ℕ
taken_words fields statement = subject statement ++ wheel_words (item_of fields statement)

-- the item that is met, with its line and its wheels
unfoldable pub meeting_words : List Field → Option Line → List ℕ
meeting_words fields None = []
meeting_words fields (Some line) =
    wording.AND_IT_MEETS.now ++ subject line.statement ++ wording.OF_LINE.now ++ decimal line.number ++ wheel_words (item_of fields line.statement)
