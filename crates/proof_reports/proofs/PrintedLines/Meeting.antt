-- What the rules on print wheels say of two items of a lawful chart that have a wheel in common.
use Rattle.std.proofs.Common.{◌≡◌, ◌∙◌, ◌⊎◌, inl, inr, refl, sym, ap, ap₂, ℕ, ◌==◌, ◌&&◌, ◌||◌, not, Bool, true, false, List, ◌∷◌, ◌++◌, Contains, Option, Some, None, is_none, arith}
use Rattle.std.proofs.lemmas.Bool.{eqb-true, and_parts}
use Rattle.std.proofs.lemmas.Bool.Decides.{nat_tests}
use Rattle.std.proofs.lemmas.List.Elements.{Contains-append_right}
use Rattle.wiring_table.proofs.Below.chart_lines.ChartsWords.Listed.{Order, is_one, goes_before, goes_after, listed-first, listed-order, none-any}
use Rattle.wiring_table.specs.Below.chart_lines.ChartsWords.Chart.{Chart}
use Rattle.wiring_table.specs.Below.chart_lines.declared.charts.chart.Line.{Line}
use Rattle.wiring_table.specs.Below.chart_lines.declared.charts.statement.Mark.{Mark}
use Rattle.wiring_table.specs.Below.chart_lines.declared.charts.statement.Mark.TheVariants as mark
use Rattle.wiring_table.specs.Below.chart_line_rules.declared.print_rules.items.Figure.{Figure}
use Rattle.wiring_table.specs.Below.chart_line_rules.declared.print_rules.items.Item.{Item}
use Rattle.wiring_table.specs.Below.chart_rules.declared.rule.Rule.TheVariants as rule
use Rattle.wiring_table.specs.Below.chart_line_rules.FieldRules.Fields.{fields_of}
use Rattle.wiring_table.specs.Below.chart_line_rules.PrintRules.Items.{item_of, is_same_line}
use Rattle.wiring_table.specs.Below.chart_rules.Rules.{IsLawful}
use Rattle.wiring_table.specs.Below.chart_line_rules.PrintRules.Wheels.{HasWheel, meet, overlap, clash, is_body, may_share, is_same_style, is_same_mark}
use Rattle.wiring_table.proofs.Below.chart_rules.Laws.{breaks-lawful}

-- Two items agree where neither is an amount, or both are amounts with the same last wheel, decimals and mark.
pub data Agree (one other : Item) : Type 0 where
  texts : one.figure ≡ None → other.figure ≡ None → Agree one other
  amounts :
      (figure same_figure : Figure) → one.figure ≡ Some figure → other.figure ≡ Some same_figure → one.end ≡ other.end
      → figure.decimals ≡ same_figure.decimals → figure.mark ≡ same_figure.mark → Agree one other

Agree-turned : (one other : Item) → Agree one other → Agree other one
Agree-turned one other (texts first second) = texts second first
Agree-turned one other (amounts f g first second end decimals mark) =
    amounts g f second first (sym end) (sym decimals) (sym mark)

-- marks that pass the test are the same
marks-same : (one other : Option Mark) → is_same_mark one other ≡ true → one ≡ other
marks-same None None is = refl
marks-same (Some mark.Credit) (Some mark.Credit) is = refl
marks-same (Some mark.Minus) (Some mark.Minus) is = refl
marks-same other another is = cc

-- items that may share wheels agree
Agree-shared : (one other : Item) → may_share one other ≡ true → Agree one other
Agree-shared one other shared = by one.figure other.figure refl refl shared
  where
    same : (f g : Figure) → one.figure ≡ Some f → other.figure ≡ Some g
        → ((one.end == other.end) && ((f.decimals == g.decimals) && is_same_mark f.mark g.mark)) ≡ true → Agree one other
    same f g first second test =
        let parts = and_parts (one.end == other.end) _ test in
        let style = and_parts (f.decimals == g.decimals) _ parts.1 in
        amounts f g first second (eqb-true one.end other.end parts.0) (eqb-true f.decimals g.decimals style.0)
        (marks-same f.mark g.mark style.1)

    no : (b : Bool) → (b && false) ≡ true → ⊥
    no true wrong = cc
    no false wrong = cc

    by : (f g : Option Figure) → one.figure ≡ f → other.figure ≡ g
        → ((is_none f && is_none g) || ((one.end == other.end) && is_same_style f g)) ≡ true → Agree one other
    by None None first second test = texts first second
    by None (Some g) first second test = absurd (no (one.end == other.end) test)
    by (Some f) None first second test = absurd (no (one.end == other.end) test)
    by (Some f) (Some g) first second test = same f g first second test

-- items with a wheel in common meet
meet-wheel : (one other : Item) (wheel : ℕ) → HasWheel one wheel → HasWheel other wheel → meet one other ≡ true
meet-wheel one other wheel (low, high) (low_other, high_other) = grind (arith, nat_tests, low, high, low_other, high_other)

-- two items of a printed line that meet don't keep the rule on overlaps
overlap-false : (one other : Item) → overlap (Some one) (Some other) ≡ false → meet one other ≡ true
    → is_same_line one.line other.line ≡ false
overlap-false one other none meets = by (is_same_line one.line other.line) (meet one other) none meets
  where
    by : (a b : Bool) → (a && b) ≡ false → b ≡ true → a ≡ false
    by true b none on = sym on ∙ none
    by false b none on = refl

-- two body items that meet, and are not on one line, may share their wheels
clash-false : (one other : Item) → clash (Some one) (Some other) ≡ false → is_body one.line ≡ true → is_body other.line ≡ true
    → is_same_line one.line other.line ≡ false → meet one other ≡ true → may_share one other ≡ true
clash-false one other none first second apart meets =
    by (is_body one.line) (is_body other.line) (is_same_line one.line other.line) (meet one other) (may_share one other) none first
    second apart meets
  where
    by : (a b c d e : Bool) → (a && b && not c && d && not e) ≡ false → a ≡ true → b ≡ true → c ≡ false → d ≡ true → e ≡ true
    by true true false true true none first second apart meets = refl
    by true true false true false none first second apart meets = sym none
    by other another third fourth e none first second apart meets = cc

-- what the rules on wheels say of an item and a later one
pub record KeepApart (one other : Item) : Type 0 where
  pub overlap : meet one other ≡ true → is_same_line one.line other.line ≡ false
  pub clash :
      is_body one.line ≡ true → is_body other.line ≡ true → meet one other ≡ true → Agree one other

KeepApart-lines : (chart : Chart) → IsLawful chart → (line other_line : Line) (a b c : List Line) (one other : Item)
    → chart.lines ≡ (a ++ line ∷ b) ++ other_line ∷ c → item_of (fields_of chart.lines) line.statement ≡ Some one
    → item_of (fields_of chart.lines) other_line.statement ≡ Some other → KeepApart one other
KeepApart-lines chart lawful line other_line a b c one other split is is_other =
    let fields = fields_of chart.lines in
    let among : Contains (a ++ line ∷ b) line = Contains-append_right a (line ∷ b) line (listed-first line b) in
    let no_overlap : overlap (Some one) (Some other) ≡ false
    = sym (ap₂ overlap is is_other)
    ∙ none-any (λ l. overlap (item_of fields l.statement) (item_of fields other_line.statement)) (a ++ line ∷ b) line
    (breaks-lawful rule.WheelOverlap chart (a ++ line ∷ b) other_line c lawful split) among in
    let no_clash : clash (Some one) (Some other) ≡ false
    = sym (ap₂ clash is is_other)
    ∙ none-any (λ l. clash (item_of fields l.statement) (item_of fields other_line.statement)) (a ++ line ∷ b) line
    (breaks-lawful rule.WheelClash chart (a ++ line ∷ b) other_line c lawful split) among in
    record {
      overlap = overlap-false one other no_overlap;
      clash = λ first second meets.
          Agree-shared one other (clash-false one other no_clash first second (overlap-false one other no_overlap meets) meets);
    }

-- two items of one printed line that have a wheel in common are from the same line of the chart
pub one-line : (chart : Chart) → IsLawful chart → (line other_line : Line) (one other : Item) (wheel : ℕ)
    → Contains chart.lines line → Contains chart.lines other_line
    → item_of (fields_of chart.lines) line.statement ≡ Some one → item_of (fields_of chart.lines) other_line.statement ≡ Some other
    → is_same_line one.line other.line ≡ true → is_same_line other.line one.line ≡ true
    → HasWheel one wheel → HasWheel other wheel → line ≡ other_line
one-line chart lawful line other_line one other wheel there there_other is is_other first second on on_other =
    by (listed-order chart.lines line other_line there there_other)
  where
    by : Order chart.lines line other_line → line ≡ other_line
    by (is_one it) = it
    by (goes_before a b c split) =
        let apart = (KeepApart-lines chart lawful line other_line a b c one other split is is_other).overlap
        (meet-wheel one other wheel on on_other) in
        cc
    by (goes_after a b c split) =
        let apart = (KeepApart-lines chart lawful other_line line a b c other one split is_other is).overlap
        (meet-wheel other one wheel on_other on) in
        cc

-- two body items that have a wheel in common are the same or agree
pub same-or-agree : (chart : Chart) → IsLawful chart → (line other_line : Line) (one other : Item) (wheel : ℕ)
    → Contains chart.lines line → Contains chart.lines other_line
    → item_of (fields_of chart.lines) line.statement ≡ Some one → item_of (fields_of chart.lines) other_line.statement ≡ Some other
    → is_body one.line ≡ true → is_body other.line ≡ true
    → HasWheel one wheel → HasWheel other wheel → (one ≡ other) ⊎ Agree one other
same-or-agree chart lawful line other_line one other wheel there there_other is is_other first second on on_other =
    by (listed-order chart.lines line other_line there there_other)
  where
    by : Order chart.lines line other_line → (one ≡ other) ⊎ Agree one other
    by (is_one it) =
        let items : Some one ≡ Some other = sym is ∙ ap (λ l. item_of (fields_of chart.lines) l.statement) it ∙ is_other in
        inl cc
    by (goes_before a b c split) =
        inr ((KeepApart-lines chart lawful line other_line a b c one other split is is_other).clash first second
        (meet-wheel one other wheel on on_other))
    by (goes_after a b c split) =
        inr (Agree-turned other one
        ((KeepApart-lines chart lawful other_line line a b c other one split is_other is).clash second first
        (meet-wheel other one wheel on_other on)))
