-- The amounts of a chart have the totals of its lines, and are lawful amounts.
use Rattle.std.proofs.Common.{◌≡◌, ◌∙◌, refl, sym, ap, ℕ, zero, suc, ◌<◌, ◌≤◌, ◌==◌, nat_lt, Bool, true, false, List, Contains, Option, Some, None, is_some, is_none, option_and_then, arith, if◌then◌else◌}
use Rattle.std.proofs.lemmas.Bool.Decides.{nat_tests}
use Rattle.std.proofs.lemmas.Bool.{not-false, both_ways, and_parts}
use Rattle.proof_reports.specs.Below.chart_line_rules.FieldRules.Coupled.{has_sign}
use Rattle.proof_reports.specs.Below.chart_plans.PlansWords.Plans.{Lists}
use Rattle.proof_reports.proofs.Below.chart_line_rules.FieldRules.Places.{is_same_name-equal}
use Rattle.proof_reports.specs.Below.chart_line_rules.FieldRules.Digits.{digits_of}
use Rattle.proof_reports.specs.Below.chart_line_rules.FieldRules.Fields.{field_named}
use Rattle.proof_reports.specs.Below.chart_line_rules.FieldRules.Names.{names_text}
use Rattle.proof_reports.specs.Below.chart_rules.Rules.{IsLawful, breaks}
use Rattle.proof_reports.specs.Below.chart_rules.declared.rule.Rule.TheVariants as rule
use Rattle.proof_reports.specs.Below.chart_lines.ChartsWords.Chart.{Chart}
use Rattle.proof_reports.specs.Below.chart_lines.ChartsWords.Field.{sign_column, column_of_rule, is_amount}
use Rattle.proof_reports.specs.Below.chart_lines.ChartsWords.Levels.{level_number}
use Rattle.proof_reports.specs.Below.chart_lines.ChartsWords.Name.{is_same_name}
use Rattle.proof_reports.specs.Below.chart_lines.declared.charts.chart.Line.{Line}
use Rattle.proof_reports.specs.Below.chart_lines.declared.charts.statement.Field.{Field}
use Rattle.proof_reports.specs.Below.chart_lines.declared.charts.statement.FieldKind.{FieldKind}
use Rattle.proof_reports.specs.Below.chart_lines.declared.charts.statement.FieldKind.TheVariants as holds
use Rattle.proof_reports.specs.Below.chart_lines.declared.charts.statement.SignRule.{SignRule}
use Rattle.proof_reports.specs.Below.chart_lines.declared.charts.statement.Statement.{Statement}
use Rattle.proof_reports.specs.Below.chart_lines.declared.charts.statement.Statement.TheVariants as says
use Rattle.proof_cycles.proofs.TotalsWords.Levels.{lower_less, lower_has}
use Rattle.proof_cycles.specs.TotalsWords.Amounts.{lower}
use Rattle.wiring_table.specs.Figures.{IsAmount, IsSigned, IsUnsigned, rule_of}
use Rattle.wiring_table.specs.Parts.{HasTotal, IsLowest, counter_for, is_total_at, total_line}
use Rattle.proof_reports.proofs.WiredPanels.CounterAsksTold.{IsUnder}
use Rattle.proof_reports.proofs.WiredPanels.PlanOwners.{level_some}
use Rattle.proof_reports.specs.WiredPanels.CycleAsks.ChartAmounts.{total_digits, total_counter, amount_of}
use Rattle.wiring_table.proofs.Totals.{one-total, one-total_line}
use Rattle.proof_reports.proofs.Below.chart_lines.ChartsWords.Listed.{found-listed, found-passing}
use Rattle.proof_reports.proofs.Below.chart_rules.Laws.{kept-line}

-- the line that is found has the total
pub found_total : (lines : List Line) (name : List ℕ) (level : ℕ) (line : Line) → total_line lines name level ≡ Some line
    → (total : HasTotal lines name level line.number) × (total.line ≡ line)
found_total lines name level line found =
    let (listed, on) = found-listed (λ (l : Line). is_total_at name level l.statement) lines line found in
    by line.statement refl listed on
  where
    by : (statement : Statement) → line.statement ≡ statement → Contains lines line → is_total_at name level statement ≡ true
        → (total : HasTotal lines name level line.number) × (total.line ≡ line)
    by (says.TotalAmount total) is listed on = (
      record {
        line = line;
        listed = listed;
        is_number = refl;
        asked = total;
        says_total = is;
        same_level = grind (arith, nat_tests, on);
        same_name = (and_parts (level_number total.level == level) (is_same_name total.name name) on).1;
      },
      refl,
    )
    by other is listed on = cc

-- a total is found
pub total_found : (lines : List Line) (name : List ℕ) (level number : ℕ) → HasTotal lines name level number
    → (line : Line) × (total_line lines name level ≡ Some line)
total_found lines name level number total =
    let levels : (level_number total.asked.level == level) ≡ true = grind (arith, nat_tests, total.same_level) in
    let on : is_total_at name level total.line.statement ≡ true =
    ap (is_total_at name level) total.says_total ∙ rw (levels, total.same_name) refl in
    found-passing (λ (l : Line). is_total_at name level l.statement) lines total.line total.listed on

-- an amount has a total where its lines have one
pub has_it : (lines : List Line) (plan : Lists) (name : List ℕ) (level number : ℕ) → HasTotal lines name level number
    → (amount_of lines plan name).has level ≡ true
has_it lines plan name level number total = let (line, is) = total_found lines name level number total in ap is_some is

pub has_from : (lines : List Line) (plan : Lists) (name : List ℕ) (level : ℕ) → (amount_of lines plan name).has level ≡ true
    → (number : ℕ) × HasTotal lines name level number
has_from lines plan name level is = by (total_line lines name level) refl is
  where
    by : (o : Option Line) → total_line lines name level ≡ o → is_some o ≡ true → (number : ℕ) × HasTotal lines name level number
    by None found on = cc
    by (Some line) found on = (line.number, (found_total lines name level line found).0)

-- levels with totals are 1 and up
pub total_level : {lines : List Line} {name : List ℕ} {level number : ℕ} → HasTotal lines name level number → 1 ≤ level
total_level total = omega (arith, level_some total.asked.level, total.same_level)

-- the digits and the counter of a total
pub digits_are : (chart : Chart) (plan : Lists) (name : List ℕ) (level number : ℕ) → IsLawful chart
    → (total : HasTotal chart.lines name level number) → (amount_of chart.lines plan name).digits level ≡ total.asked.digits
digits_are chart plan name level number lawful total =
    let (line, found) = total_found chart.lines name level number total in
    let (its, is_line) = found_total chart.lines name level line found in
    let same = one-total_line chart name lawful level number line.number total its in
    ap total_digits found ∙ ap (λ (l : Line). digits_of l.statement) (sym is_line ∙ sym same) ∙ ap digits_of total.says_total

pub counter_at : (chart : Chart) (plan : Lists) (name : List ℕ) (level number : ℕ) → IsLawful chart
    → HasTotal chart.lines name level number → total_counter chart.lines plan name level ≡ counter_for chart.lines plan number
counter_at chart plan name level number lawful total =
    let (line, found) = total_found chart.lines name level number total in
    let (its, is_line) = found_total chart.lines name level line found in
    let same = one-total chart name lawful level number line.number total its in
    ap (option_and_then (λ (l : Line). counter_for chart.lines plan l.number)) found ∙ ap (counter_for chart.lines plan) (sym same)

-- a lower level with a total is not above the next lower one
pub lower_covers : (has : ℕ → Bool) (level k : ℕ) → k < level → has k ≡ true → k ≤ lower has level
lower_covers has zero k less on = absurd (omega (arith, less))
lower_covers has (suc level) k less on = by (has level) refl (λ below. lower_covers has level k below on)
  where
    at_level : k ≡ level → has level ≡ true
    at_level e = ap has (sym e) ∙ on

    by : (b : Bool) → has level ≡ b → (k < level → k ≤ lower has level) → k ≤ (if b then level else lower has level)
    by true is below = omega (arith, less)
    by false is below = not_at (λ e. both_ways _ is (at_level e)) below
      where
        not_at : (k ≡ level → ⊥) → (k < level → k ≤ lower has level) → k ≤ lower has level
        not_at differs below = by_order (nat_lt k level) refl
          where
            by_order : (b : Bool) → nat_lt k level ≡ b → k ≤ lower has level
            by_order true is = below (grind (arith, nat_tests, is))
            by_order false is = absurd (differs (grind (arith, nat_tests, is, less)))

module _ (lines : List Line) (plan : Lists) (name : List ℕ) (level : ℕ) (some : 1 ≤ level) where
  -- the lowest total is that below which there is none
  pub lowest_is : IsLowest lines name level → lower (amount_of lines plan name).has level ≡ 0
  lowest_is low = by (lower (amount_of lines plan name).has level) refl
    where
      by : (k : ℕ) → lower (amount_of lines plan name).has level ≡ k → k ≡ 0
      by zero is = refl
      by (suc k) is =
          let less = lower_less (amount_of lines plan name).has level some in
          let has = lower_has (amount_of lines plan name).has level (omega (arith, is)) in
          let (number, total) = has_from lines plan name (lower (amount_of lines plan name).has level) has in
          absurd (low (lower (amount_of lines plan name).has level) number less total)

  pub lowest_from : lower (amount_of lines plan name).has level ≡ 0 → IsLowest lines name level
  lowest_from none other number less total =
      let covered = lower_covers (amount_of lines plan name).has level other less (has_it lines plan name other number total) in
      absurd (omega (arith, total_level total, covered, none))

  -- the next lower total is that between which and the level there is none
  pub under_is : (low : ℕ) → IsUnder lines name low level → lower (amount_of lines plan name).has level ≡ low
  under_is low under =
      by (nat_lt low (lower (amount_of lines plan name).has level)) refl
      (lower_covers (amount_of lines plan name).has level low under.below (has_it lines plan name low under.number under.total))
    where
      by : (b : Bool) → nat_lt low (lower (amount_of lines plan name).has level) ≡ b
          → low ≤ lower (amount_of lines plan name).has level → lower (amount_of lines plan name).has level ≡ low
      by false is covered = grind (arith, nat_tests, is, covered)
      by true is covered =
          let above : low < lower (amount_of lines plan name).has level = grind (arith, nat_tests, is) in
          let less = lower_less (amount_of lines plan name).has level some in
          let has = lower_has (amount_of lines plan name).has level (omega (arith, above)) in
          let (number, total) = has_from lines plan name (lower (amount_of lines plan name).has level) has in
          absurd (under.between (lower (amount_of lines plan name).has level) number above less total)

  pub under_from : (low : ℕ) → (amount_of lines plan name).has low ≡ true → lower (amount_of lines plan name).has level ≡ low
      → IsUnder lines name low level
  under_from low has is =
      let (number, total) = has_from lines plan name low has in
      let less = lower_less (amount_of lines plan name).has level some in
      record {
        number = number;
        total = total;
        below = omega (arith, less, is);
        between =
            λ middle other above below given.
            let covered = lower_covers (amount_of lines plan name).has level middle below (has_it lines plan name middle other given) in
            omega (arith, covered, is, above);
      }

-- signs
sign_of : (kind : FieldKind) (rule : SignRule) → rule_of kind ≡ Some rule → sign_column kind ≡ Some (column_of_rule rule)
sign_of holds.Text rule is = cc
sign_of (holds.Amount decimals None) rule is = cc
sign_of (holds.Amount decimals (Some its)) rule is = let same : its ≡ rule = cc in ap (λ r. Some (column_of_rule r)) same

pub signed_is : (lines : List Line) (name : List ℕ) (rule : SignRule) → IsSigned lines name rule
    → has_sign (field_named lines name) ≡ true
signed_is lines name rule signed =
    ap has_sign signed.named ∙ ap is_some (sign_of signed.field.kind rule signed.ruled)

pub unsigned_is : (lines : List Line) (name : List ℕ) → IsUnsigned lines name → has_sign (field_named lines name) ≡ false
unsigned_is lines name unsigned =
    ap has_sign unsigned.is_amount.named ∙ by unsigned.field.kind unsigned.unruled
  where
    by : (kind : FieldKind) → rule_of kind ≡ None → is_some (sign_column kind) ≡ false
    by holds.Text is = refl
    by (holds.Amount decimals None) is = refl
    by (holds.Amount decimals (Some its)) is = cc

pub signed_from : (lines : List Line) (name : List ℕ) (field : Field) → field_named lines name ≡ Some field
    → has_sign (field_named lines name) ≡ true → (rule : SignRule) × IsSigned lines name rule
signed_from lines name field named signed = by field.kind refl (sym (ap has_sign named) ∙ signed)
  where
    by : (kind : FieldKind) → field.kind ≡ kind → is_some (sign_column kind) ≡ true → (rule : SignRule) × IsSigned lines name rule
    by holds.Text is on = cc
    by (holds.Amount decimals None) is on = cc
    by (holds.Amount decimals (Some its)) is on = (its, record { field = field; named = named; ruled = ap rule_of is })

pub unsigned_from : (lines : List Line) (name : List ℕ) (field : Field) → IsAmount lines name field
    → has_sign (field_named lines name) ≡ false → IsUnsigned lines name
unsigned_from lines name field amount unsigned = by field.kind refl (sym (ap has_sign amount.named) ∙ unsigned)
  where
    by : (kind : FieldKind) → field.kind ≡ kind → is_some (sign_column kind) ≡ false → IsUnsigned lines name
    by holds.Text is on = record { field = field; is_amount = amount; unruled = ap rule_of is }
    by (holds.Amount decimals None) is on = record { field = field; is_amount = amount; unruled = ap rule_of is }
    by (holds.Amount decimals (Some its)) is on = cc

-- the name of a total stands for an amount
pub total_field : (chart : Chart) (name : List ℕ) (level number : ℕ) → IsLawful chart → HasTotal chart.lines name level number
    → (field : Field) × IsAmount chart.lines name field
total_field chart name level number lawful total =
    let same = is_same_name-equal total.asked.name name total.same_name in
    let (before, known) = kept-line chart lawful total.line total.listed rule.UnknownName in
    let (earlier, right_kind) = kept-line chart lawful total.line total.listed rule.WrongKind in
    by (field_named chart.lines name) refl
    (ap (λ n. is_none (field_named chart.lines n)) (sym same) ∙ sym (ap (breaks rule.UnknownName chart.lines before) total.says_total) ∙ known)
    (ap (λ n. names_text (field_named chart.lines n)) (sym same) ∙ sym (ap (breaks rule.WrongKind chart.lines earlier) total.says_total) ∙ right_kind)
  where
    by : (o : Option Field) → field_named chart.lines name ≡ o → is_none o ≡ false → names_text o ≡ false
        → (field : Field) × IsAmount chart.lines name field
    by None is there right = cc
    by (Some field) is there right = (field, record { named = is; holds_amount = not-false (is_amount field.kind) right })
