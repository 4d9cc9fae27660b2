-- No two fields of a lawful chart have one name, so that each amount that wants a pilot stands once among those.
use Rattle.std.proofs.Common.{◌≡◌, ◌∙◌, refl, sym, ap, subst, Bool, true, false, cond, true≢false, List, [], ◌∷◌, ◌++◌, Contains, Option, Some, None, is_some, map, filter, append_assoc}
use Rattle.std.specs.List.{cons_option}
use Rattle.std.proofs.lemmas.List.Elements.{Contains-append_right}
use Rattle.chart_rules.specs.Rules.{IsLawful}
use Rattle.chart_rules.specs.declared.rule.Rule.TheVariants as rule
use Rattle.chart_rules.proofs.Laws.{breaks-lawful, statement-field}
use Rattle.chart_lines.specs.ChartsWords.Chart.{Chart}
use Rattle.chart_lines.specs.ChartsWords.Name.{is_same_name}
use Rattle.chart_lines.specs.declared.charts.chart.Line.{Line}
use Rattle.chart_lines.specs.declared.charts.statement.Field.{Field}
use Rattle.chart_lines.proofs.ChartsWords.Listed.{found-passing, given-by, listed-first, listed-given, listed-place}
use Rattle.chart_line_rules.specs.FieldRules.Fields.{field_of, fields_of, first_named}
use Rattle.chart_line_rules.specs.FieldRules.Names.{breaks_name_twice}
use Rattle.chart_line_rules.proofs.FieldRules.Places.{is_same_name-own}
use Rattle.match_plans.proofs.Apart.{AllApart, HasOwnPlaces, own-place}
use Rattle.match_plans.proofs.Zipped.{filter-listed, map-listed}
use Rattle.chart_plans.specs.WantedWords.Pilots.{pilots_of, wants_pilot}

module _ (chart : Chart) (lawful : IsLawful chart) where
  -- a later field of the name of an earlier one breaks a rule
  not-twice : (earlier rest : List Line) (line : Line) (field other : Field) → chart.lines ≡ earlier ++ line ∷ rest
      → field_of line.statement ≡ Some field → Contains (fields_of rest) other → other.name ≡ field.name → ⊥
  not-twice earlier rest line field other split is there same =
      let from = given-by (λ (each : Line). field_of each.statement) rest other there in
      let s = listed-place from.element rest from.listed in
      let parts : chart.lines ≡ (earlier ++ line ∷ s.earlier) ++ from.element ∷ s.later =
      split ∙ ap (λ ls. earlier ++ line ∷ ls) s.parts ∙ sym (append_assoc earlier (line ∷ s.earlier) (from.element ∷ s.later)) in
      let kept : is_some (first_named (fields_of (earlier ++ line ∷ s.earlier)) other.name) ≡ false =
      ap (breaks_name_twice (fields_of (earlier ++ line ∷ s.earlier))) (sym (statement-field from.element.statement other from.gives))
      ∙ breaks-lawful rule.NameTwice chart (earlier ++ line ∷ s.earlier) from.element s.later lawful parts in
      let listed : Contains (fields_of (earlier ++ line ∷ s.earlier)) field =
      listed-given (λ (each : Line). field_of each.statement) (earlier ++ line ∷ s.earlier) line field
      (Contains-append_right earlier (line ∷ s.earlier) line (listed-first line s.earlier)) is in
      let found = found-passing (λ (each : Field). is_same_name each.name other.name) (fields_of (earlier ++ line ∷ s.earlier)) field listed
      (ap (is_same_name field.name) same ∙ is_same_name-own field.name) in
      true≢false (sym (ap is_some found.1) ∙ kept)

  -- the names of the fields that pass a test, from a line on
  apart-from : (test : Field → Bool) (earlier later : List Line) → chart.lines ≡ earlier ++ later
      → AllApart (map (λ (field : Field). field.name) (filter test (fields_of later)))
  apart-from test earlier [] split = tt
  apart-from test earlier (line ∷ rest) split =
      by (field_of line.statement) refl
      (apart-from test (earlier ++ line ∷ []) rest (split ∙ sym (append_assoc earlier (line ∷ []) rest)))
    where
      own : (b : Bool) (field : Field) → field_of line.statement ≡ Some field
          → AllApart (map (λ (each : Field). each.name) (filter test (fields_of rest)))
          → AllApart (map (λ (each : Field). each.name) (cond b (field ∷ filter test (fields_of rest)) (filter test (fields_of rest))))
      own false field is below = below
      own true field is below = (
        λ there.
            let (other, passing, same) = map-listed (λ (each : Field). each.name) (filter test (fields_of rest)) field.name there in
            not-twice earlier rest line field other split is (filter-listed test (fields_of rest) other passing).0 same,
        below,
      )

      by : (o : Option Field) → field_of line.statement ≡ o → AllApart (map (λ (each : Field). each.name) (filter test (fields_of rest)))
          → AllApart (map (λ (each : Field). each.name) (filter test (cons_option (field_of line.statement) (fields_of rest))))
      by None is below = subst (λ o. AllApart (map (λ (each : Field). each.name) (filter test (cons_option o (fields_of rest))))) (sym is) below
      by (Some field) is below =
          subst (λ o. AllApart (map (λ (each : Field). each.name) (filter test (cons_option o (fields_of rest))))) (sym is)
          (own (test field) field is below)

  -- so each amount that wants a pilot stands once among those that do
  pub names-apart : HasOwnPlaces (pilots_of chart.lines)
  names-apart = own-place (pilots_of chart.lines) (apart-from (wants_pilot chart.lines) [] chart.lines refl)
