-- A lawful chart says nothing of the spacing of a kind of line that it doesn't print, nor of what follows it.
use Rattle.std.proofs.Common.{◌≡◌, sym, Option, nat_lt, arith, ℕ, ◌==◌, ◌||◌, Bool, true, false, List, [], ◌∷◌, Some, None, refl, ap, subst, ◌∙◌, ◌⊎◌, if◌then◌else◌}
use Rattle.std.proofs.lemmas.Bool.Decides.{nat_tests}
use Rattle.std.proofs.lemmas.Bool.{not-false}
use Rattle.report_definition.specs.Below.chart_lines.declared.charts.statement.After.{After}
use Rattle.carriage.specs.Below.net.Printing.{prints}
use Rattle.carriage.specs.Below.net.declared.cycle.Cycle.{Cycle}
use Rattle.carriage.specs.Below.net.declared.cycle.Cycle.TheVariants.{RunIn, Card, Prog, Head}
use Rattle.carriage.specs.Asked.{nothing_asked}
use Rattle.carriage.specs.Carriage.{CarriageState}
use Rattle.report_definition.specs.Below.chart_lines.ChartsWords.Chart.{Chart}
use Rattle.report_definition.specs.Below.chart_lines.ChartsWords.Levels.{level_number}
use Rattle.report_definition.specs.Below.chart_lines.declared.charts.chart.Line.{Line}
use Rattle.report_definition.specs.Below.chart_lines.declared.charts.level.Level.{Level}
use Rattle.report_definition.specs.Below.chart_lines.declared.charts.level.Level.TheVariants as level
use Rattle.report_definition.specs.Below.chart_lines.declared.charts.statement.BodyLine.{BodyLine}
use Rattle.report_definition.specs.Below.chart_lines.declared.charts.statement.BodyLine.TheVariants as body
use Rattle.report_definition.specs.Below.chart_lines.declared.charts.statement.Printing.TheVariants as print
use Rattle.report_definition.specs.Below.chart_lines.declared.charts.statement.Statement.{Statement}
use Rattle.report_definition.specs.Below.chart_lines.declared.charts.statement.Statement.TheVariants as says
use Rattle.report_definition.specs.Below.chart_rules.declared.rule.Rule.TheVariants as rule
use Rattle.report_definition.specs.Below.chart_line_rules.PrintRules.Items.{printed_line_of}
use Rattle.report_definition.specs.Below.chart_line_rules.PrintRules.Printing.{is_kind, has_item_of, is_print, is_print_group, prints_group, has_print, breaks_print_kind}
use Rattle.report_definition.specs.Below.chart_rules.Rules.{IsLawful}
use Rattle.report_definition.proofs.Below.chart_lines.ChartsWords.Listed.{any-passing}
use Rattle.report_definition.proofs.Below.chart_rules.Laws.{kept-line, lacks-lawful}
use Rattle.report_definition.specs.ChartForm.{is_print_detail, prints_details, is_total_item, prints_totals, kind_number, spacing_of, after_of}
use Rattle.proof_reports.specs.WiredPanels.CycleAsks.LinePlaces.Placing.{prints_kind, channel_of, turns_page, kind_of, asked_of, IsCarriageOf}
use Rattle.proof_reports.specs.WiredPanels.CycleAsks.LinePlaces.CarriageCycles.{carriage_after, begins_page}
use Rattle.proof_reports.proofs.WiredPanels.CycleAsks.LinePlaces.BodyLines.{jacks-print}
use Rattle.proof_reports.proofs.WiredPanels.CycleAsks.LinePlaces.Placements.{quiet-stays}
use Rattle.report_definition.proofs.LawfulForms.{spacing-range}
use Rattle.report_definition.proofs.Said.{after-said, space-said}

-- an item on the line of a card forbids PRINT GROUP
details-alone : (chart : Chart) → IsLawful chart → has_item_of chart.lines body.Detail ≡ true → prints_group chart.lines ≡ false
details-alone chart lawful has =
    let item = any-passing (λ line. is_kind body.Detail (printed_line_of line.statement)) chart.lines has in
    by item.element.statement item.passes (kept-line chart lawful item.element item.listed rule.PrintKind).1
  where
    by : (statement : Statement) → is_kind body.Detail (printed_line_of statement) ≡ true → breaks_print_kind chart.lines statement ≡ false
        → prints_group chart.lines ≡ false
    by (says.DetailLiteral wheel literal) on kept = kept
    by (says.DetailField wheel name shown) on kept = kept
    by other on kept = cc

-- what is printed is PRINT DETAIL where it isn't PRINT GROUP
detail-or_group : (lines : List Line) → has_print lines ≡ true → prints_group lines ≡ false → prints_details lines ≡ true
detail-or_group [] has none = cc
detail-or_group (line ∷ lines) has none = by line.statement has none (λ there group. detail-or_group lines there group)
  where
    by : (statement : Statement) → (is_print statement || has_print lines) ≡ true → (is_print_group statement || prints_group lines) ≡ false
        → (has_print lines ≡ true → prints_group lines ≡ false → prints_details lines ≡ true)
        → (is_print_detail statement || prints_details lines) ≡ true
    by (says.Print print.Detail) there group below = refl
    by (says.Print print.Group) there group below = cc
    by other there group below = below there group

-- the items of a level make its totals printed
totals-printed : (lines : List Line) (its : Level) → has_item_of lines (body.Total its) ≡ true → prints_totals lines (level_number its) ≡ true
totals-printed [] its has = cc
totals-printed (line ∷ lines) its has = by line.statement has (totals-printed lines its)
  where
    either : (here below below_too : Bool) → (below ≡ true → below_too ≡ true) → (here || below) ≡ true → (here || below_too) ≡ true
    either true below below_too more is = refl
    either false below below_too more is = more is

    by : (statement : Statement) → (is_kind (body.Total its) (printed_line_of statement) || has_item_of lines (body.Total its)) ≡ true
        → (has_item_of lines (body.Total its) ≡ true → prints_totals lines (level_number its) ≡ true)
        → (is_total_item (level_number its) statement || prints_totals lines (level_number its)) ≡ true
    by (says.TotalLiteral one wheel literal) there below =
        either (level_number one == level_number its) (has_item_of lines (body.Total its)) (prints_totals lines (level_number its)) below there
    by (says.TotalText one wheel name) there below =
        either (level_number one == level_number its) (has_item_of lines (body.Total its)) (prints_totals lines (level_number its)) below there
    by (says.TotalAmount total) there below =
        either (level_number total.level == level_number its) (has_item_of lines (body.Total its)) (prints_totals lines (level_number its)) below there
    by other there below = below there

-- a kind with items is printed
kind-printed : (chart : Chart) (kind : BodyLine) → IsLawful chart → has_item_of chart.lines kind ≡ true
    → prints_kind chart.lines (kind_number kind) ≡ true
kind-printed chart body.Detail lawful has =
    detail-or_group chart.lines (not-false (has_print chart.lines) (lacks-lawful rule.PrintKind chart lawful)) (details-alone chart lawful has)
kind-printed chart (body.Total level.Minor) lawful has = totals-printed chart.lines level.Minor has
kind-printed chart (body.Total level.Intermediate) lawful has = totals-printed chart.lines level.Intermediate has
kind-printed chart (body.Total level.Major) lawful has = totals-printed chart.lines level.Major has
kind-printed chart (body.Total level.Final) lawful has = totals-printed chart.lines level.Final has

-- no items are of a kind
abbrev HasNoItems : List Line → ℕ → Type 0
HasNoItems lines kind = (its : BodyLine) → kind_number its ≡ kind → has_item_of lines its ≡ true → ⊥

-- the spacing of a kind without items is single
spacing-single : (chart : Chart) (kind : ℕ) → IsLawful chart → HasNoItems chart.lines kind → spacing_of chart.lines kind ≡ 1
spacing-single chart kind lawful none = by (nat_lt 1 (spacing_of chart.lines kind)) refl
  where
    by : (b : Bool) → nat_lt 1 (spacing_of chart.lines kind) ≡ b → spacing_of chart.lines kind ≡ 1
    by false is = let from = (spacing-range chart.lines kind).0 in grind (arith, nat_tests, is, from)
    by true is =
        let s = space-said chart.lines kind (spacing_of chart.lines kind) (grind (arith, nat_tests, is)) refl in
        absurd (none s.its_kind s.same_kind
        (not-false _ (sym (ap (breaks_print_kind chart.lines) s.is_space) ∙ (kept-line chart lawful s.line s.listed rule.PrintKind).1)))

-- and nothing follows it
after-none : (chart : Chart) (kind : ℕ) → IsLawful chart → HasNoItems chart.lines kind → after_of chart.lines kind ≡ None
after-none chart kind lawful none = by (after_of chart.lines kind) refl
  where
    by : (o : Option After) → after_of chart.lines kind ≡ o → o ≡ None
    by None is = refl
    by (Some follows) is =
        let s = after-said chart.lines kind follows is in
        absurd (none s.its_kind s.same_kind
        (not-false _ (sym (ap (breaks_print_kind chart.lines) s.is_after) ∙ (kept-line chart lawful s.line s.listed rule.PrintKind).1)))

-- nothing is asked for in the cycles of a kind that isn't printed
pub unprinted-silent : (chart : Chart) (kind : ℕ) → IsLawful chart → prints_kind chart.lines kind ≡ false
    → asked_of chart.lines kind ≡ nothing_asked
unprinted-silent chart kind lawful unprinted =
    let none : HasNoItems chart.lines kind =
    λ its same has.
    let printed : prints_kind chart.lines kind ≡ true =
    subst (λ k. prints_kind chart.lines k ≡ true) same (kind-printed chart its lawful has) in
    absurd (cc) in
    let space = spacing-single chart kind lawful none in
    let follows = after-none chart kind lawful none in
    λ i. record { lines = space i; channel = channel_of (follows i); restore = turns_page (follows i) }

-- the cycle of a body line begins no page
begins-none : (cycle : Cycle) (kind : ℕ) → kind_of cycle ≡ Some kind → begins_page cycle ≡ false
begins-none RunIn kind is = refl
begins-none Card kind is = refl
begins-none (Prog level ordinal) kind is = refl
begins-none (Head heading) kind is = cc

-- the cycle of a kind that isn't printed leaves the carriage where it stands
pub unprinted-stays : (chart : Chart) (carriage : CarriageState) (cycle : Cycle) (kind : ℕ)
    → IsLawful chart → IsCarriageOf chart.lines carriage → kind_of cycle ≡ Some kind → prints_kind chart.lines kind ≡ false
    → carriage_after carriage (asked_of chart.lines kind) cycle ≡ record carriage { asked = nothing_asked; printed = None }
unprinted-stays chart carriage cycle kind lawful is is_kind unprinted =
    let quiet : prints carriage.printing cycle ≡ false =
    ap (λ p. prints p cycle) is.printing ∙ jacks-print chart.lines cycle kind is_kind ∙ unprinted in
    ap (λ a. carriage_after carriage a cycle) (unprinted-silent chart kind lawful unprinted)
    ∙ quiet-stays carriage cycle quiet (begins-none cycle kind is_kind)
