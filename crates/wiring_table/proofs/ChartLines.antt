-- A FIELD line of a lawful chart is what its name stands for.
use Rattle.std.proofs.Common.{◌≡◌, ◌∙◌, refl, sym, ap, Bool, true, false, List, [], ◌∷◌, ◌++◌, Contains, Option, Some, None, is_some, if◌then◌else◌}
use Rattle.std.specs.List.{cons_option}
use Rattle.chart_plans.proofs.Below.chart_rules.Laws.{breaks-lawful}
use Rattle.report_definition.proofs.Below.chart_line_rules.FieldRules.Places.{is_same_name-own}
use Rattle.chart_plans.proofs.Below.chart_lines.ChartsWords.Listed.{listed-place}
use Rattle.report_definition.specs.Below.chart_line_rules.FieldRules.Fields.{field_of, fields_of, first_named, field_named}
use Rattle.report_definition.specs.Below.chart_line_rules.FieldRules.Names.{breaks_name_twice}
use Rattle.chart_plans.specs.Below.chart_rules.Rules.{IsLawful}
use Rattle.chart_plans.specs.Below.chart_rules.declared.rule.Rule.TheVariants as rule
use Rattle.chart_plans.specs.Below.chart_lines.ChartsWords.Chart.{Chart}
use Rattle.chart_plans.specs.Below.chart_lines.ChartsWords.Name.{is_same_name}
use Rattle.chart_plans.specs.Below.chart_lines.declared.charts.chart.Line.{Line}
use Rattle.chart_plans.specs.Below.chart_lines.declared.charts.statement.Field.{Field}
use Rattle.chart_plans.specs.Below.chart_lines.declared.charts.statement.Statement.TheVariants as says

-- the first field with a name, after lines that have none with it
after-none : (earlier : List Line) (line : Line) (later : List Line) (field : Field) → line.statement ≡ says.Field field
    → is_some (first_named (fields_of earlier) field.name) ≡ false → field_named (earlier ++ line ∷ later) field.name ≡ Some field
after-none [] line later field is none =
    ap (λ statement. first_named (cons_option (field_of statement) (fields_of later)) field.name) is
    ∙ rw (is_same_name-own field.name) refl
after-none (first ∷ earlier) line later field is none =
    by (field_of first.statement) none (after-none earlier line later field is)
  where
    either : (other : Field) (b : Bool)
        → is_some (if b then Some other else first_named (fields_of earlier) field.name) ≡ false
        → (is_some (first_named (fields_of earlier) field.name) ≡ false → field_named (earlier ++ line ∷ later) field.name ≡ Some field)
        → (if b then Some other else field_named (earlier ++ line ∷ later) field.name) ≡ Some field
    either other true left below = cc
    either other false left below = below left

    by : (found : Option Field) → is_some (first_named (cons_option found (fields_of earlier)) field.name) ≡ false
        → (is_some (first_named (fields_of earlier) field.name) ≡ false → field_named (earlier ++ line ∷ later) field.name ≡ Some field)
        → first_named (cons_option found (fields_of (earlier ++ line ∷ later))) field.name ≡ Some field
    by None left below = below left
    by (Some other) left below = either other (is_same_name other.name field.name) left below

-- a FIELD line of a lawful chart is what its name stands for
pub field-own : (chart : Chart) → IsLawful chart → (line : Line) (field : Field) → Contains chart.lines line
    → line.statement ≡ says.Field field → field_named chart.lines field.name ≡ Some field
field-own chart lawful line field listed is =
    let s = listed-place line chart.lines listed in
    let kept : is_some (first_named (fields_of s.earlier) field.name) ≡ false =
    ap (λ statement. breaks_name_twice (fields_of s.earlier) statement) (sym is)
    ∙ breaks-lawful rule.NameTwice chart s.earlier line s.later lawful s.parts in
    ap (λ lines. field_named lines field.name) s.parts ∙ after-none s.earlier line s.later field is kept
