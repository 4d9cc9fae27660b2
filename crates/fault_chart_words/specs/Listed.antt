-- Which faults of a chart are listed, and in which order: each line with each rule that it breaks, but for a rule that it breaks only
-- since something else is wrong.
use Rattle.std.specs.Prelude.{◌≡◌, ℕ, ◌<◌, ◌≤◌, Bool, true, false, List, ◌∷◌, ◌++◌, ◌||◌, ◌&&◌, not, nat_lt, ◌⊎◌, Contains}
use Rattle.std.specs.List.{list_any}
use Rattle.chart_lines.specs.ChartsWords.Chart.{Chart}
use Rattle.chart_lines.specs.declared.charts.chart.Line.{Line}
use Rattle.chart_lines.specs.declared.charts.statement.Statement.{Statement}
use Rattle.chart_lines.specs.declared.charts.statement.Statement.TheVariants as says
use Rattle.chart_line_rules.specs.FieldRules.Fields.{fields_of}
use Rattle.chart_line_rules.specs.FieldRules.Names.{breaks_unknown_name, breaks_wrong_kind}
use Rattle.chart_line_rules.specs.PrintRules.Forms.{breaks_form, lacks_form}
use Rattle.chart_line_rules.specs.PrintRules.Tapes.{is_good_tape}
use Rattle.chart_rules.specs.declared.rule.Rule.{Rule}
use Rattle.chart_rules.specs.declared.rule.Rule.TheVariants as rule
use Rattle.chart_rules.specs.Rules.{breaks_at, lacks, rule_number, Broken, IsFirstBroken}
use Rattle.fault_chart_words.specs.declared.listing.BrokenRule.{BrokenRule}

-- whether the name that a line uses has no FIELD, or one of the wrong kind
abbrev pub misnames : Chart → Statement → Bool
misnames chart statement = breaks_unknown_name (fields_of chart.lines) statement || breaks_wrong_kind (fields_of chart.lines) statement

-- whether a field has no columns, since its last one stands before the first
abbrev pub has_no_columns : Statement → Bool
has_no_columns (says.Field field) = nat_lt field.last field.first
has_no_columns other = false

-- whether a chart has no FORM line, or one that breaks its rule
abbrev pub lacks_good_form : List Line → Bool
lacks_good_form lines = lacks_form lines || list_any (λ line. breaks_form lines line.statement) lines

-- Whether a line can break a rule only since something else is wrong. Of a field without columns nothing can be said of its size. Where a name
-- has no FIELD, or one of the wrong kind, nothing can be said of what it controls and of the counter groups that its total takes; where there is
-- no good FORM, nothing of a tape that would be good on the largest one, of 144 lines.
abbrev pub only_follows : Rule → Chart → Statement → Bool
only_follows rule.AmountSize chart statement = has_no_columns statement
only_follows rule.TotalTextNotControl chart statement = misnames chart statement
only_follows rule.CoupledMark chart statement = misnames chart statement
only_follows rule.Tape chart (says.Tape channel stops) = lacks_good_form chart.lines && is_good_tape 144 channel stops
only_follows other chart statement = false

-- whether a line breaks a rule, and not only since something else is wrong
abbrev pub is_at_fault : Rule → Chart → List Line → Line → Bool
is_at_fault broken chart earlier line = breaks_at broken chart earlier line && not (only_follows broken chart line.statement)

-- A rule is listed at a number: that of a line at fault, or that of END where a line is missing.
pub data Listed (broken : Rule) (chart : Chart) : ℕ → Type 0 where
  by_line : (earlier : List Line) (line : Line) (later : List Line) → chart.lines ≡ earlier ++ line ∷ later
      → is_at_fault broken chart earlier line ≡ true → Listed broken chart line.number
  by_end : lacks broken chart.lines ≡ true → Listed broken chart chart.end

-- a list has exactly the pairs of rule and line that are listed
abbrev pub HasAllListed : Chart → List BrokenRule → Type 0
HasAllListed chart list = (fault : BrokenRule) → (Contains list fault → Listed fault.rule chart fault.line) × (Listed fault.rule chart fault.line → Contains list fault)

-- one fault comes before another: it is on an earlier line, or on the same line and of a lower rule
abbrev pub ComesBefore : BrokenRule → BrokenRule → Type 0
ComesBefore one other = (one.line < other.line) ⊎ ((one.line ≡ other.line) × (rule_number one.rule < rule_number other.rule))

-- a fault is the first of a list by the rules' numbers: no other is of a lower rule, nor of the same rule on a lower line
pub record IsFirstByRule (list : List BrokenRule) (first : BrokenRule) : Type 0 where
  pub there : Contains list first
  pub lowest_rule : (other : BrokenRule) → Contains list other → rule_number first.rule ≤ rule_number other.rule
  pub lowest_line : (other : BrokenRule) → Contains list other → other.rule ≡ first.rule → first.line ≤ other.line

-- the lowest rule that a chart breaks, at the lowest line that breaks it, is the first of a list by the rules' numbers
abbrev pub BeginsAsChecked : Chart → List BrokenRule → Type 0
BeginsAsChecked chart list = (rule : Rule) (line : ℕ) → IsFirstBroken chart rule line → IsFirstByRule list (record { line = line; rule = rule })

-- What is broken and isn't listed follows from something that is: a lower rule is listed.
abbrev pub IsListedOrFollows : Chart → Rule → ℕ → Type 0
IsListedOrFollows chart broken line =
    Listed broken chart line ⊎ ((lower : Rule) × (other : ℕ) × (rule_number lower < rule_number broken) × Listed lower chart other)

-- nothing else is left out
abbrev pub LeavesOutWhatFollows : Type 0
LeavesOutWhatFollows = (chart : Chart) (broken : Rule) (line : ℕ) → Broken broken chart line → IsListedOrFollows chart broken line
