-- The control fields of a level, line by line.
use Rattle.std.proofs.Common.{◌≡◌, ◌∙◌, sym, ap, ℕ, ◌+◌, ◌<◌, ◌≤◌, ◌==◌, if◌then◌else◌, Bool, true, false, List, [], ◌∷◌, ◌++◌, Option, Some, None, length, get_or, take, append-nil}
use Rattle.std.specs.List.{cons_option}
use Rattle.std.proofs.lemmas.List.{take_all, take_more}
use Rattle.std.proofs.lemmas.List.Elements.{filter_map-append}
use Rattle.chart_lines.specs.ChartsWords.Chart.{Chart}
use Rattle.chart_lines.specs.declared.charts.chart.Line.{Line}
use Rattle.chart_lines.specs.declared.charts.statement.Field.{Field}
use Rattle.chart_lines.proofs.ChartsWords.Listed.{given-by, listed-at}
use Rattle.chart_lines.specs.declared.charts.statement.Statement.{Statement}
use Rattle.chart_lines.specs.declared.charts.statement.Statement.TheVariants as says
use Rattle.chart_lines.specs.ChartsWords.Levels.{control_number}
use Rattle.chart_line_rules.specs.FieldRules.Fields.{field_named}
use Rattle.chart_rules.specs.Controls.{control_on, controls_among, controls_of}
use Rattle.chart_rules.specs.HelperOnCard.{AreOnCard}
use Rattle.chart_rules.specs.Rules.{IsLawful}
use Rattle.chart_rules.proofs.Laws.{good-field}

-- one line more
controls-more : (lines : List Line) (level i : ℕ) (line : Line) (o : Option Field) → i < length lines → line ≡ get_or lines i line
    → control_on lines level line.statement ≡ o
    → controls_among lines level (take (i + 1) lines) ≡ controls_among lines level (take i lines) ++ cons_option o []
controls-more lines level i line o within at is =
    ap (controls_among lines level) (take_more lines i line within ∙ ap (λ each. take i lines ++ each ∷ []) (sym at))
    ∙ filter_map-append (λ (each : Line). control_on lines level each.statement) (take i lines) (line ∷ [])
    ∙ ap (λ one. controls_among lines level (take i lines) ++ cons_option one []) is

-- that names a control field
pub controls-one : (lines : List Line) (level i : ℕ) (line : Line) (field : Field) (old new : List Field) → i < length lines
    → line ≡ get_or lines i line → old ≡ controls_among lines level (take i lines) → control_on lines level line.statement ≡ Some field
    → new ≡ old ++ field ∷ [] → new ≡ controls_among lines level (take (i + 1) lines)
controls-one lines level i line field old new within at so_far names is =
    is ∙ ap (λ l. l ++ field ∷ []) so_far ∙ sym (controls-more lines level i line (Some field) within at names)

-- or none
pub controls-none : (lines : List Line) (level i : ℕ) (line : Line) (old : List Field) → i < length lines
    → line ≡ get_or lines i line → old ≡ controls_among lines level (take i lines) → control_on lines level line.statement ≡ None
    → old ≡ controls_among lines level (take (i + 1) lines)
controls-none lines level i line old within at so_far none =
    so_far ∙ sym (append-nil (controls_among lines level (take i lines))) ∙ sym (controls-more lines level i line None within at none)

-- all lines
pub controls-all : (lines : List Line) (level i : ℕ) (old : List Field) → length lines ≤ i
    → old ≡ controls_among lines level (take i lines) → old ≡ controls_of lines level
controls-all lines level i old past so_far = so_far ∙ ap (controls_among lines level) (take_all i lines past)

-- a named control field is a field with that name
named : (lines : List Line) (level : ℕ) (statement : Statement) (field : Field) → control_on lines level statement ≡ Some field
    → (name : List ℕ) × (field_named lines name ≡ Some field)
named lines level (says.Control its name) field is = (name, only (control_number its == level) is)
  where
    only : (b : Bool) → (if b then field_named lines name else None) ≡ Some field → field_named lines name ≡ Some field
    only true is = is
    only false is = cc
named lines level other field is = cc

-- the control fields of a lawful chart are on the card
pub controls-on_card : (chart : Chart) (level : ℕ) → IsLawful chart → AreOnCard (controls_of chart.lines level)
controls-on_card chart level lawful place field there =
    let from = given-by (λ line. control_on chart.lines level line.statement) chart.lines field
    (listed-at (controls_of chart.lines level) place field there) in
    let its = named chart.lines level from.element.statement field from.gives in
    (good-field chart lawful its.0 field its.1).card
