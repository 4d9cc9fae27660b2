-- The totals of a lawful chart keep the bounds.
use Rattle.std.proofs.Common.{◌≡◌, ◌∙◌, refl, sym, ap, subst, ℕ, true, false, List, [], ◌∷◌, ◌++◌, Contains, Option, Some, None, option_map, arith}
use Rattle.std.specs.List.{All, cons_option}
use Rattle.std.proofs.lemmas.Bool.Decides.{nat_tests}
use Rattle.std.proofs.lemmas.Bool.{not-false}
use Rattle.std.proofs.lemmas.Int.{ints}
use Rattle.std.proofs.lemmas.List.Elements.{All-nil, All-cons}
use Rattle.chart_lines.specs.ChartsWords.Chart.{Chart}
use Rattle.chart_lines.specs.ChartsWords.Field.{sign_column, is_amount}
use Rattle.chart_lines.specs.declared.charts.chart.Line.{Line}
use Rattle.chart_lines.specs.declared.charts.statement.Field.{Field}
use Rattle.chart_lines.specs.declared.charts.statement.Statement.{Statement}
use Rattle.chart_lines.specs.declared.charts.statement.TotalLine.{TotalLine}
use Rattle.chart_lines.specs.declared.charts.statement.Statement.TheVariants as says
use Rattle.chart_lines.proofs.ChartsWords.Listed.{listed-after, listed-first, listed-place}
use Rattle.chart_line_rules.specs.FieldRules.Columns.{has_good_sign}
use Rattle.chart_line_rules.specs.FieldRules.Digits.{is_out_of_digits}
use Rattle.chart_line_rules.specs.FieldRules.Fields.{field_named}
use Rattle.chart_line_rules.specs.FieldRules.Names.{names_text}
use Rattle.chart_line_rules.proofs.FieldRules.DigitsKept.{AreGoodDigits, digits-kept}
use Rattle.chart_rules.specs.Rules.{breaks, IsLawful}
use Rattle.chart_rules.specs.declared.rule.Rule.TheVariants as rule
use Rattle.chart_rules.proofs.Laws.{breaks-lawful, field-line, good-field}
use Rattle.report_definition.specs.Breaks.{no_cards}
use Rattle.report_misfits.specs.HelperAmounts.{IsColumn, IsGoodAmount}
use Rattle.report_misfits.specs.HelperTotals.{IsKept, IsWithin}
use Rattle.report_misfits.specs.OpenTotals.{open_of, open_on, open_totals}
use Rattle.report_misfits.specs.declared.open_total.OpenTotal.{OpenTotal}

-- a good sign column is on the card
pub good_column : (sign : Option ℕ) → has_good_sign sign ≡ true → IsColumn sign
good_column None good = tt
good_column (Some column) good = (grind (arith, nat_tests, good), grind (arith, nat_tests, good))

-- a named amount keeps the bounds
good_amount : (chart : Chart) → IsLawful chart → (name : List ℕ) (field : Field) → field_named chart.lines name ≡ Some field
    → is_amount field.kind ≡ true → IsGoodAmount field
good_amount chart lawful name field named amount =
    let good = good-field chart lawful name field named in
    record { on_card = good.card; few = good.few amount; sign = good_column (sign_column field.kind) good.sign }

-- a total of a field of a lawful chart keeps the bounds
pub good_total : (chart : Chart) (earlier : List Line) (line : Line) (later : List Line) (total : TotalLine) (field : Field)
    → IsLawful chart → chart.lines ≡ earlier ++ line ∷ later → line.statement ≡ says.TotalAmount total → field_named chart.lines total.name ≡ Some field
    → IsGoodAmount field × AreGoodDigits field total.digits
good_total chart earlier line later total field lawful split is named =
    let kind = sym (ap (breaks rule.WrongKind chart.lines earlier) is) ∙ breaks-lawful rule.WrongKind chart earlier line later lawful split in
    let range = sym (ap (breaks rule.DigitsRange chart.lines earlier) is) ∙ breaks-lawful rule.DigitsRange chart earlier line later lawful split in (
      good_amount chart lawful total.name field named (amount (field_named chart.lines total.name) named kind),
      digits-kept field total.digits (ap (λ o. is_out_of_digits o total.digits) (sym named) ∙ range),
    )
  where
    amount : (o : Option Field) → o ≡ Some field → names_text o ≡ false → is_amount field.kind ≡ true
    amount None is kept = cc
    amount (Some other) is kept =
        let same : other ≡ field = cc in ap (λ f. is_amount f.kind) (sym same) ∙ not-false (is_amount other.kind) kept

-- An open total is that of a total line of the chart.
pub record FromLine (chart : Chart) (so_far : ℕ → List (List ℕ)) (line : Line) (total : OpenTotal) : Type 0 where
  pub asked : TotalLine
  pub says_so : line.statement ≡ says.TotalAmount asked
  pub named : field_named chart.lines asked.name ≡ Some total.field
  pub is_open : total ≡ open_of asked so_far total.field

from_line : (chart : Chart) (so_far : ℕ → List (List ℕ)) (line : Line) (total : OpenTotal)
    → open_on chart.lines so_far line.statement ≡ Some total → FromLine chart so_far line total
from_line chart so_far line total opens = by line.statement refl opens
  where
    of : (asked : TotalLine) (o : Option Field) → line.statement ≡ says.TotalAmount asked → field_named chart.lines asked.name ≡ o
        → option_map (open_of asked so_far) o ≡ Some total → FromLine chart so_far line total
    of asked None is named none = cc
    of asked (Some field) is named some =
        let same : open_of asked so_far field ≡ total = cc in
        subst (FromLine chart so_far line) same
        (record { asked = asked; says_so = is; named = named; is_open = refl })

    by : (statement : Statement) → line.statement ≡ statement → open_on chart.lines so_far statement ≡ Some total
        → FromLine chart so_far line total
    by (says.TotalAmount total) is some = of total (field_named chart.lines total.name) is refl some
    by other is none = cc

-- before the first card the open total of a line keeps the bounds
pub kept_line : (chart : Chart) (line : Line) (total : OpenTotal) → IsLawful chart → Contains chart.lines line
    → open_on chart.lines no_cards line.statement ≡ Some total → IsKept 0 total
kept_line chart line total lawful there opens =
    let from = from_line chart no_cards line total opens in
    let place = listed-place line chart.lines there in
    let good = good_total chart place.earlier line place.later from.asked total.field lawful place.parts from.says_so from.named in
    let few = good.1.few in
    let digits : total.digits ≡ from.asked.digits = ap (λ (each : OpenTotal). each.digits) from.is_open in
    record {
      amount = good.0;
      few_digits = omega (arith, few, digits);
      small = subst (IsWithin 0) (sym (ap (λ (each : OpenTotal). each.sum) from.is_open)) (omega (arith, ints), omega (arith, ints));
    }

-- and its amount is what its name stands for
pub named_line : (chart : Chart) (line : Line) (total : OpenTotal) → open_on chart.lines no_cards line.statement ≡ Some total
    → field_named chart.lines total.field.name ≡ Some total.field
named_line chart line total opens =
    let from = from_line chart no_cards line total opens in
    ap (field_named chart.lines) (field-line chart.lines from.asked.name total.field from.named).own_name ∙ from.named

-- before the first card the open totals of a lawful chart keep the bounds
pub kept_at_first : (chart : Chart) → IsLawful chart → All (IsKept 0) (open_totals chart.lines no_cards chart.lines)
kept_at_first chart lawful = all chart.lines (λ line there. there)
  where
    all : (some : List Line) → ((line : Line) → Contains some line → Contains chart.lines line)
        → All (IsKept 0) (open_totals chart.lines no_cards some)
    all [] there = All-nil (IsKept 0)
    all (line ∷ some) there =
        by (open_on chart.lines no_cards line.statement) refl (all some (λ other stands. there other (listed-after line some stands)))
      where
        by : (o : Option OpenTotal) → open_on chart.lines no_cards line.statement ≡ o → All (IsKept 0) (open_totals chart.lines no_cards some)
            → All (IsKept 0) (cons_option o (open_totals chart.lines no_cards some))
        by None none rest = rest
        by (Some total) opens rest =
            All-cons (IsKept 0) total (open_totals chart.lines no_cards some)
            (kept_line chart line total lawful (there line (listed-first line some)) opens) rest
