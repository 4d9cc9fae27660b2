-- What a lawful chart keeps, line by line and field by field.
use Rattle.std.proofs.Common.{◌≡◌, ℕ, ◌<◌, ◌⊎◌, inl, inr, ◌≤◌, ◌&&◌, nat_le, Bool, true, false, List, ◌∷◌, ◌++◌, Contains, Some, sym, ap, ◌∙◌, arith, refl}
use Rattle.std.proofs.lemmas.Bool.{and_parts, both_ways, cases_lt, not-false}
use Rattle.std.proofs.lemmas.Bool.Decides.{nat_tests}
use Rattle.std.proofs.lemmas.List.Elements.{Contains-append_right}
use Rattle.chart_lines.specs.ChartsWords.Chart.{Chart}
use Rattle.chart_lines.specs.ChartsWords.Field.{columns_of, decimals_of, is_amount, sign_column}
use Rattle.chart_lines.specs.ChartsWords.Name.{is_same_name}
use Rattle.chart_lines.specs.declared.charts.chart.Line.{Line}
use Rattle.chart_lines.specs.declared.charts.statement.Field.{Field}
use Rattle.chart_lines.specs.declared.charts.statement.FieldKind.{FieldKind}
use Rattle.chart_lines.specs.declared.charts.statement.FieldKind.TheVariants as holds
use Rattle.chart_lines.specs.declared.charts.statement.Statement.{Statement}
use Rattle.chart_lines.specs.declared.charts.statement.Statement.TheVariants as says
use Rattle.chart_lines.proofs.ChartsWords.Listed.{Order, is_one, goes_before, goes_after, listed-first, listed-at, listed-place, listed-order, place-of, found-listed, given-by, none-any}
use Rattle.chart_line_rules.proofs.FieldRules.Places.{is_same_name-equal}
use Rattle.chart_line_rules.specs.FieldRules.Columns.{breaks_columns, breaks_amount_size, has_good_sign, is_too_large}
use Rattle.chart_line_rules.specs.FieldRules.Fields.{field_of, fields_of, field_named}
use Rattle.chart_line_rules.specs.FieldRules.Repeats.{repeats}
use Rattle.chart_rules.specs.declared.rule.Rule.{Rule}
use Rattle.chart_rules.specs.declared.rule.Rule.TheVariants as rule
use Rattle.chart_rules.specs.HelperAmounts.{AreSized}
use Rattle.chart_rules.specs.HelperOnCard.{IsOnCard, AreOnCard}
use Rattle.chart_rules.specs.Rules.{breaks, breaks_at, lacks, by_line, by_end, IsKept, IsLawful}
use Rattle.chart_rules.specs.ValidCard.{IsText, IsValidAmount, IsValidCard, IsValidField, IsValidKind, column_of, digit_count}

-- a line of a lawful chart breaks no rule
pub breaks_at-lawful : (each : Rule) (chart : Chart) (earlier : List Line) (line : Line) (later : List Line) → IsLawful chart
    → chart.lines ≡ earlier ++ line ∷ later → breaks_at each chart earlier line ≡ false
unfolding IsLawful IsKept
breaks_at-lawful each chart earlier line later lawful split = by (breaks_at each chart earlier line) refl
  where
    by : (b : Bool) → breaks_at each chart earlier line ≡ b → b ≡ false
    by true h = absurd (lawful each line.number (by_line earlier line later split h))
    by false h = refl

-- and none by what it says alone
pub breaks-lawful : (each : Rule) (chart : Chart) (earlier : List Line) (line : Line) (later : List Line) → IsLawful chart
    → chart.lines ≡ earlier ++ line ∷ later → breaks each chart.lines earlier line.statement ≡ false
breaks-lawful rule.CoupledMark chart earlier line later lawful split = refl
breaks-lawful other chart earlier line later lawful split = breaks_at-lawful other chart earlier line later lawful split

-- whichever lines stand before it
pub kept-line : (chart : Chart) → IsLawful chart → (line : Line) → Contains chart.lines line → (each : Rule)
    → (earlier : List Line) × (breaks each chart.lines earlier line.statement ≡ false)
kept-line chart lawful line listed each =
    let place = listed-place line chart.lines listed in
    (place.earlier, breaks-lawful each chart place.earlier line place.later lawful place.parts)

-- and the chart lacks no line
pub lacks-lawful : (each : Rule) (chart : Chart) → IsLawful chart → lacks each chart.lines ≡ false
unfolding IsLawful IsKept
lacks-lawful each chart lawful = by (lacks each chart.lines) refl
  where
    by : (b : Bool) → lacks each chart.lines ≡ b → b ≡ false
    by true h = absurd (lawful each chart.end (by_end h))
    by false h = refl

-- two lines of a lawful chart that say the same are one line
pub said-once : (chart : Chart) → IsLawful chart → (one other : Line) → Contains chart.lines one → Contains chart.lines other
    → repeats one.statement other.statement ≡ true → repeats other.statement one.statement ≡ true → one ≡ other
said-once chart lawful one other there there_other is is_other = by (listed-order chart.lines one other there there_other)
  where
    never : (first second : Line) (a b c : List Line) → chart.lines ≡ (a ++ first ∷ b) ++ second ∷ c
        → repeats first.statement second.statement ≡ true → ⊥
    never first second a b c split again =
        both_ways (repeats first.statement second.statement)
        (none-any (λ l. repeats l.statement second.statement) (a ++ first ∷ b) first
        (breaks-lawful rule.LineTwice chart (a ++ first ∷ b) second c lawful split)
        (Contains-append_right a (first ∷ b) first (listed-first first b))) again

    by : Order chart.lines one other → one ≡ other
    by (is_one it) = it
    by (goes_before a b c split) = absurd (never one other a b c split is)
    by (goes_after a b c split) = absurd (never other one a b c split is_other)

-- a line with a field is a FIELD line
pub statement-field : (statement : Statement) (field : Field) → field_of statement ≡ Some field → statement ≡ says.Field field
statement-field (says.Field other) field h = cc
statement-field other field h = cc

-- A field of a lawful chart: its columns and its sign column are on the card, and an amount has 8 digits at most, and no more decimals
-- than digits.
pub record IsGoodField (field : Field) : Type 0 where
  pub card : IsOnCard field
  pub sign : has_good_sign (sign_column field.kind) ≡ true
  pub few : is_amount field.kind ≡ true → columns_of field ≤ 8
  pub decimals : decimals_of field.kind ≤ columns_of field

good-sizes : (kind : FieldKind) (digits : ℕ) → is_too_large kind digits ≡ false
    → (is_amount kind ≡ true → digits ≤ 8) × (decimals_of kind ≤ digits)
good-sizes holds.Text digits h = ((λ amount. cc), omega arith)
good-sizes (holds.Amount decimals rule) digits h = ((λ amount. grind (arith, nat_tests, h)), grind (arith, nat_tests, h))

good-kept : (field : Field) → breaks_columns (says.Field field) ≡ false → breaks_amount_size (says.Field field) ≡ false → IsGoodField field
good-kept field columns size =
    let sizes = good-sizes field.kind (columns_of field) size in
    record {
      card = record { from = grind (arith, nat_tests, columns); order = grind (arith, nat_tests, columns); to = grind (arith, nat_tests, columns) };
      sign = (and_parts (nat_le 1 field.first && nat_le field.first field.last && nat_le field.last 80) (has_good_sign (sign_column field.kind))
          (not-false _ columns)).1;
      few = sizes.0;
      decimals = sizes.1;
    }

-- the fields of a lawful chart are good
pub good-listed : (chart : Chart) → IsLawful chart → (field : Field) → Contains (fields_of chart.lines) field → IsGoodField field
good-listed chart lawful field there =
    let from = given-by (λ line. field_of line.statement) chart.lines field there in
    let says_it = sym (statement-field from.element.statement field from.gives) in
    good-kept field (ap breaks_columns says_it ∙ (kept-line chart lawful from.element from.listed rule.Columns).1)
    (ap breaks_amount_size says_it ∙ (kept-line chart lawful from.element from.listed rule.AmountSize).1)

pub AreOnCard-lawful : (chart : Chart) → IsLawful chart → AreOnCard (fields_of chart.lines)
AreOnCard-lawful chart lawful place field at = (good-listed chart lawful field (listed-at (fields_of chart.lines) place field at)).card

pub AreSized-lawful : (chart : Chart) → IsLawful chart → AreSized (fields_of chart.lines)
AreSized-lawful chart lawful place field at = (good-listed chart lawful field (listed-at (fields_of chart.lines) place field at)).decimals

-- What a name stands for is a field of the chart, has that name, and has a FIELD line.
pub record FieldLine (lines : List Line) (name : List ℕ) (field : Field) : Type 0 where
  pub among : Contains (fields_of lines) field
  pub line : Line
  pub listed : Contains lines line
  pub is_field : line.statement ≡ says.Field field
  pub own_name : field.name ≡ name

pub field-line : (lines : List Line) (name : List ℕ) (field : Field) → field_named lines name ≡ Some field → FieldLine lines name field
field-line lines name field named =
    let found = found-listed (λ each. is_same_name each.name name) (fields_of lines) field named in
    let from = given-by (λ line. field_of line.statement) lines field found.0 in
    record {
      among = found.0;
      line = from.element;
      listed = from.listed;
      is_field = statement-field from.element.statement field from.gives;
      own_name = is_same_name-equal field.name name found.1;
    }

-- it is good, and valid on a valid card
pub good-field : (chart : Chart) → IsLawful chart → (name : List ℕ) (field : Field) → field_named chart.lines name ≡ Some field
    → IsGoodField field
good-field chart lawful name field named = good-listed chart lawful field (field-line chart.lines name field named).among

pub named-valid : (chart : Chart) (card name : List ℕ) (field : Field) → IsValidCard chart card
    → field_named chart.lines name ≡ Some field → IsValidField field card
unfolding IsValidCard
named-valid chart card name field valid named =
    let (place, within, is) = (field-line chart.lines name field named).among in
    valid place within field (place-of (fields_of chart.lines) field place within is)

-- as a text or as an amount
pub text-valid : (chart : Chart) (card name : List ℕ) (field : Field) → IsValidCard chart card → field_named chart.lines name ≡ Some field
    → is_amount field.kind ≡ false → IsText field.first field.last card
text-valid chart card name field valid named text = by field.kind text (named-valid chart card name field valid named)
  where
    by : (kind : FieldKind) → is_amount kind ≡ false → IsValidKind kind field card → IsText field.first field.last card
    by holds.Text text given = given
    by (holds.Amount decimals rule) text given = cc

pub amount-valid : (chart : Chart) (card name : List ℕ) (field : Field) → IsValidCard chart card → field_named chart.lines name ≡ Some field
    → is_amount field.kind ≡ true → IsValidAmount field card
amount-valid chart card name field valid named amount = by field.kind amount (named-valid chart card name field valid named)
  where
    by : (kind : FieldKind) → is_amount kind ≡ true → IsValidKind kind field card → IsValidAmount field card
    by holds.Text amount given = cc
    by (holds.Amount decimals rule) amount given = given

-- whose columns have one digit at most
pub one-digit : (field : Field) (card : List ℕ) (column : ℕ) → IsValidAmount field card → field.first ≤ column → column ≤ field.last
    → digit_count (column_of card column) ≤ 1
one-digit field card column valid from to = by (cases_lt column valid.digits.start)
  where
    by : (column < valid.digits.start) ⊎ (valid.digits.start ≤ column) → digit_count (column_of card column) ≤ 1
    by (inl before) = let e = valid.digits.blanks column from before in omega (arith, e)
    by (inr after) = let e = valid.digits.digits column after to in omega (arith, e)
