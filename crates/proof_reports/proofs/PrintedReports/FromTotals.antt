-- What the third program cycle of a level prints: the total line of its group.
use Rattle.std.proofs.Common.{◌≡◌, ◌∙◌, refl, sym, ap, ℕ, zero, suc, ◌+◌, ◌≤◌, ◌<◌, ◌==◌, ◌&&◌, nat_le, Bool, true, false, List, [], ◌∷◌, ◌++◌, Contains, Some, None, All, if◌then◌else◌, arith}
use Rattle.std.proofs.lemmas.Bool.{not-false}
use Rattle.std.proofs.lemmas.Bool.Decides.{nat_tests}
use Rattle.std.proofs.lemmas.List.Elements.{All-contains, All-head}
use Rattle.std.proofs.lemmas.List.Sums.{AllPass-from_list_all}
use Rattle.std.specs.List.{list_all, range_with_len}
use Rattle.proof_reports.proofs.Below.chart_line_rules.FieldRules.Places.{is_same_name-equal}
use Rattle.proof_reports.specs.Below.chart_line_rules.FieldRules.Control.{breaks_total_text_not_control, controls_by, is_controlled_by}
use Rattle.proof_reports.specs.Below.chart_line_rules.FieldRules.Fields.{field_named}
use Rattle.report_definition.specs.Below.chart_rules.Controls.{control_on, controls_of}
use Rattle.report_definition.specs.Below.chart_rules.Rules.{IsLawful}
use Rattle.report_definition.specs.Below.chart_rules.ValidCard.{column_of}
use Rattle.report_definition.specs.Below.chart_rules.declared.rule.Rule.TheVariants as rule
use Rattle.report_definition.specs.Below.chart_lines.ChartsWords.Chart.{Chart}
use Rattle.report_definition.specs.Below.chart_lines.ChartsWords.Field.{columns_of}
use Rattle.report_definition.specs.Below.chart_lines.ChartsWords.Levels.{control_number, level_number}
use Rattle.report_definition.specs.Below.chart_lines.ChartsWords.Name.{is_same_name}
use Rattle.report_definition.specs.Below.chart_lines.declared.charts.chart.Line.{Line}
use Rattle.report_definition.specs.Below.chart_lines.declared.charts.level.ControlLevel.{ControlLevel}
use Rattle.report_definition.specs.Below.chart_lines.declared.charts.level.ControlLevel.TheVariants as control
use Rattle.report_definition.specs.Below.chart_lines.declared.charts.level.Level.{Level as ChartLevel}
use Rattle.report_definition.specs.Below.chart_lines.declared.charts.statement.Field.{Field}
use Rattle.report_definition.specs.Below.chart_lines.declared.charts.statement.Statement.{Statement}
use Rattle.report_definition.specs.Below.chart_lines.declared.charts.statement.Statement.TheVariants as says
use Rattle.report_definition.specs.FollowedDecks.Alike.{AlikeWith}
use Rattle.report_definition.proofs.Below.chart_lines.ChartsWords.Listed.{any-passing, listed-given}
use Rattle.report_definition.proofs.Below.chart_rules.Laws.{kept-line}
use Rattle.report_definition.specs.BodyLines.{a_card_of}
use Rattle.report_definition.specs.Breaks.{taking}
use Rattle.report_definition.specs.Groups.{is_same_at, is_same_on}

-- cards that are the same on a field have the same columns in it
columns_same : (field : Field) (one card : List ℕ) → is_same_on field one card ≡ true → (column : ℕ) → field.first ≤ column
    → column ≤ field.last → column_of one column ≡ column_of card column
columns_same field one card same column low high =
    in_range field.first (columns_of field) same low (omega (arith, low, high))
  where
    in_range : (from count : ℕ) → list_all (λ c. column_of one c == column_of card c) (range_with_len from count) ≡ true
        → from ≤ column → column < from + count → column_of one column ≡ column_of card column
    in_range from zero all lower upper = absurd (omega (arith, lower, upper))
    in_range from (suc count) all lower upper =
        by (column_of one from == column_of card from) refl (list_all (λ c. column_of one c == column_of card c) (range_with_len (from + 1) count)) all
        (λ rest above. in_range (from + 1) count rest above (omega (arith, upper))) (column == from) refl
      where
        by : (b : Bool) → (column_of one from == column_of card from) ≡ b → (bs : Bool) → (b && bs) ≡ true
            → (bs ≡ true → from + 1 ≤ column → column_of one column ≡ column_of card column)
            → (c : Bool) → (column == from) ≡ c → column_of one column ≡ column_of card column
        by false here bs both later c at = cc
        by true here bs both later true at =
            let same_column : column ≡ from = grind (arith, nat_tests, at) in
            let punches : column_of one from ≡ column_of card from = grind (arith, nat_tests, here) in
            ap (column_of one) same_column ∙ punches ∙ sym (ap (column_of card) same_column)
        by true here bs both later false at =
            let above : from + 1 ≤ column = grind (arith, nat_tests, at, lower) in
            later both above

-- the first card of a group is the same as its last on the control fields of the group's level and of those above
pub first_same : (lines : List Line) (so_far : ℕ → List (List ℕ)) (card : List ℕ) (level above : ℕ) (field : Field)
    → AlikeWith lines so_far card → level ≤ above → above ≤ 3 → Contains (controls_of lines above) field
    → (column : ℕ) → field.first ≤ column → column ≤ field.last
    → column_of card column ≡ column_of (a_card_of (taking card so_far level)) column
first_same lines so_far card level above field alike low high controls column from to =
    by (so_far level) (alike level above low high)
  where
    by : (group : List (List ℕ)) → All (λ one. is_same_at lines above one card ≡ true) group
        → column_of card column ≡ column_of (a_card_of (group ++ (card ∷ []))) column
    by [] same = refl
    by (one ∷ others) same =
        sym (columns_same field one card
        (All-contains (λ some. is_same_on some one card ≡ true) (controls_of lines above) field
        (AllPass-from_list_all (λ some. is_same_on some one card) (controls_of lines above)
        (All-head (λ some. is_same_at lines above some card ≡ true) one others same)) controls) column from to)

-- a text on a total line is a control field of the line's level or of one above
pub record IsControlled (lines : List Line) (level : ChartLevel) (field : Field) : Type 0 where
  pub above : ℕ
  pub low : level_number level ≤ above
  pub high : above ≤ 3
  pub controls : Contains (controls_of lines above) field

pub controlled : (chart : Chart) (line : Line) (level : ChartLevel) (wheel : ℕ) (name : List ℕ) (field : Field) → IsLawful chart
    → Contains chart.lines line → line.statement ≡ says.TotalText level wheel name → field_named chart.lines name ≡ Some field
    → IsControlled chart.lines level field
controlled chart line level wheel name field lawful listed is named =
    let (earlier, right) = kept-line chart lawful line listed rule.TotalTextNotControl in
    let by_some : is_controlled_by chart.lines level name ≡ true
    = not-false (is_controlled_by chart.lines level name) (sym (ap (breaks_total_text_not_control chart.lines) is) ∙ right) in
    let f = any-passing (λ (l : Line). controls_by level name l.statement) chart.lines by_some in
    from f.element f.listed f.element.statement refl f.passes
  where
    split : (a b : Bool) → (a && b) ≡ true → (a ≡ true) × (b ≡ true)
    split true true both = (refl, refl)
    split true false both = cc
    split false b both = cc

    three : (its : ControlLevel) → control_number its ≤ 3
    three control.Minor = omega arith
    three control.Intermediate = omega arith
    three control.Major = omega arith

    from : (l : Line) → Contains chart.lines l → (s : Statement) → l.statement ≡ s → controls_by level name s ≡ true
        → IsControlled chart.lines level field
    from l there (says.Control its its_name) says_it does =
        let both = split (nat_le (level_number level) (control_number its)) (is_same_name its_name name) does in
        let same = is_same_name-equal its_name name both.1 in
        let here : (control_number its == control_number its) ≡ true = grind (arith, nat_tests) in
        record {
          above = control_number its;
          low = grind (arith, nat_tests, both.0);
          high = three its;
          controls = listed-given (λ (each : Line). control_on chart.lines (control_number its) each.statement) chart.lines l field there
              (ap (control_on chart.lines (control_number its)) says_it
              ∙ ap (λ (b : Bool). if b then field_named chart.lines its_name else None) here
              ∙ ap (field_named chart.lines) same ∙ named);
        }
    from l there other says_it does = cc
