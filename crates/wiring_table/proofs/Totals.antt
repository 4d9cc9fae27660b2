-- The totals of an amount of a lawful chart: one at a level, and none in fewer digits than a lower one.
use Rattle.std.proofs.Common.{◌≡◌, ◌∙◌, refl, sym, ap, ℕ, ◌<◌, ◌≤◌, ◌==◌, nat_lt, Bool, true, false, List, Some, arith}
use Rattle.std.proofs.lemmas.Bool.{both_ways}
use Rattle.std.proofs.lemmas.Bool.Decides.{nat_tests}
use Rattle.chart_plans.specs.Below.chart_lines.ChartsWords.Chart.{Chart}
use Rattle.chart_plans.specs.Below.chart_lines.ChartsWords.Levels.{level_number}
use Rattle.chart_plans.specs.Below.chart_lines.ChartsWords.Name.{is_same_name}
use Rattle.chart_plans.specs.Below.chart_lines.declared.charts.chart.Line.{Line}
use Rattle.chart_plans.specs.Below.chart_lines.declared.charts.statement.Field.{Field}
use Rattle.chart_plans.specs.Below.chart_lines.declared.charts.statement.Statement.TheVariants as says
use Rattle.chart_plans.specs.Below.chart_lines.declared.charts.statement.TotalLine.{TotalLine}
use Rattle.std.specs.List.{Contains}
use Rattle.chart_plans.proofs.Below.chart_lines.ChartsWords.Listed.{none-any}
use Rattle.report_definition.proofs.Below.chart_line_rules.FieldRules.DigitsKept.{AreGoodDigits, digits-kept}
use Rattle.report_definition.proofs.Below.chart_line_rules.FieldRules.Places.{is_same_name-equal, is_same_name-own}
use Rattle.report_definition.specs.Below.chart_line_rules.FieldRules.Digits.{is_out_of_digits}
use Rattle.report_definition.specs.Below.chart_line_rules.FieldRules.Fields.{field_named}
use Rattle.report_definition.specs.Below.chart_line_rules.FieldRules.Repeats.{repeats}
use Rattle.report_definition.specs.Below.chart_line_rules.FieldRules.Shrink.{is_wider_below}
use Rattle.chart_plans.proofs.Below.chart_rules.Laws.{kept-line, said-once}
use Rattle.chart_plans.specs.Below.chart_rules.Rules.{IsLawful, breaks}
use Rattle.chart_plans.specs.Below.chart_rules.declared.rule.Rule.TheVariants as rule
use Rattle.wiring_table.specs.Parts.{HasTotal}

-- the total on a line
abbrev pub total-of : (lines : List Line) (line : Line) (total : TotalLine) → Contains lines line → line.statement ≡ says.TotalAmount total
    → HasTotal lines total.name (level_number total.level) line.number
total-of lines line total listed says_it = record {
  line = line;
  listed = listed;
  is_number = refl;
  asked = total;
  says_total = says_it;
  same_level = refl;
  same_name = is_same_name-own total.name;
}

module _ (chart : Chart) (name : List ℕ) (lawful : IsLawful chart) where
  -- totals of one amount name it alike
  same-names : {low high n m : ℕ} (a : HasTotal chart.lines name low n) (b : HasTotal chart.lines name high m)
      → is_same_name a.asked.name b.asked.name ≡ true
  same-names a b =
      ap (is_same_name a.asked.name) (is_same_name-equal b.asked.name name b.same_name ∙ sym (is_same_name-equal a.asked.name name a.same_name))
      ∙ is_same_name-own a.asked.name

  repeating : {level n m : ℕ} (a : HasTotal chart.lines name level n) (b : HasTotal chart.lines name level m)
      → repeats a.line.statement b.line.statement ≡ true
  repeating a b =
      let levels : (level_number a.asked.level == level_number b.asked.level) ≡ true =
      grind (arith, nat_tests, a.same_level, b.same_level) in
      rw (a.says_total, b.says_total, levels, same-names a b) refl

  -- the totals of an amount at one level stand on one line
  pub one-total_line : (level n m : ℕ) (a : HasTotal chart.lines name level n) (b : HasTotal chart.lines name level m) → a.line ≡ b.line
  one-total_line level n m a b = said-once chart lawful a.line b.line a.listed b.listed (repeating a b) (repeating b a)

  pub one-total : (level n m : ℕ) → HasTotal chart.lines name level n → HasTotal chart.lines name level m → n ≡ m
  one-total level n m a b = sym a.is_number ∙ ap (λ (l : Line). l.number) (one-total_line level n m a b) ∙ b.is_number

  -- no total has fewer digits than a lower one
  pub digits-grow : (low high n m : ℕ) → low < high → (a : HasTotal chart.lines name low n) (b : HasTotal chart.lines name high m)
      → a.asked.digits ≤ b.asked.digits
  digits-grow low high n m less a b = by (nat_lt b.asked.digits a.asked.digits) refl
    where
      none : is_wider_below b.asked a.line.statement ≡ false
      none =
          let (earlier, keeps) = kept-line chart lawful b.line b.listed rule.DigitsShrink in
          none-any (λ (l : Line). is_wider_below b.asked l.statement) chart.lines a.line
          (sym (ap (breaks rule.DigitsShrink chart.lines earlier) b.says_total) ∙ keeps) a.listed

      by : (wider : Bool) → nat_lt b.asked.digits a.asked.digits ≡ wider → a.asked.digits ≤ b.asked.digits
      by false is = grind (arith, nat_tests, is)
      by true is =
          let levels : nat_lt (level_number a.asked.level) (level_number b.asked.level) ≡ true =
          grind (arith, nat_tests, less, a.same_level, b.same_level) in
          absurd (both_ways (is_wider_below b.asked a.line.statement) none
          (ap (is_wider_below b.asked) a.says_total ∙ rw (levels, same-names a b, is) refl))

  -- the digits of a total go with its field
  pub total-digits : (level number : ℕ) (field : Field) (total : HasTotal chart.lines name level number)
      → field_named chart.lines name ≡ Some field → AreGoodDigits field total.asked.digits
  total-digits level number field total named =
      let (earlier, keeps) = kept-line chart lawful total.line total.listed rule.DigitsRange in
      digits-kept field total.asked.digits
      (ap (λ o. is_out_of_digits o total.asked.digits) (sym named)
      ∙ ap (λ n. is_out_of_digits (field_named chart.lines n) total.asked.digits) (sym (is_same_name-equal total.asked.name name total.same_name))
      ∙ sym (ap (breaks rule.DigitsRange chart.lines earlier) total.says_total) ∙ keeps)
