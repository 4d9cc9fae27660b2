-- The third program cycle of a level, put together: what the groups and units hold, and the line that they print.
use Rattle.std.proofs.Common.{◌≡◌, ◌∙◌, refl, sym, ap, subst, ℕ, ◌+◌, ◌≤◌, ◌<◌, ◌^◌, ◌==◌, true, false, List, Contains, Option, Some, None, is_some, unsigned_abs, inl, inr}
use Rattle.proof_reports.specs.Below.chart_line_rules.FieldRules.Coupled.{has_sign}
use Rattle.proof_reports.specs.Below.counters.Laws.{IsCounter}
use Rattle.proof_reports.specs.Below.chart_plans.PlansWords.Plans.{Lists}
use Rattle.proof_reports.specs.Below.chart_plans.declared.plans.counter.TotalCounter.{TotalCounter}
use Rattle.proof_reports.specs.Below.chart_plans.declared.plans.counter.TotalCounter.TheVariants as of
use Rattle.report_definition.specs.Below.card_code.declared.row.Row.{Row as CardRow}
use Rattle.proof_reports.specs.Below.chart_line_rules.FieldRules.Fields.{field_named, fields_of}
use Rattle.proof_reports.specs.Below.chart_line_rules.PrintRules.Marks.{breaks_mark_mismatch, is_mismatched, is_mismatched_kind}
use Rattle.proof_reports.specs.Below.chart_line_rules.FieldRules.Names.{breaks_wrong_kind, names_amount}
use Rattle.report_definition.specs.Below.chart_rules.ValidCard.{IsValidCard, column_of, is_printed}
use Rattle.report_definition.specs.Below.card_code.CardCode.{deck_character, has_row}
use Rattle.report_definition.specs.Below.card_code.Rows.{row_number}
use Rattle.proof_reports.specs.Below.storage_units.Storage.{holds as holds_column}
use Rattle.report_definition.specs.Below.chart_rules.declared.rule.Rule.TheVariants as rule
use Rattle.report_definition.specs.Below.chart_lines.ChartsWords.Chart.{Chart, NumbersRise}
use Rattle.report_definition.specs.Below.chart_lines.ChartsWords.Field.{columns_of, is_amount, sign_column}
use Rattle.report_definition.specs.Below.chart_lines.ChartsWords.Levels as levels
use Rattle.report_definition.specs.Below.chart_lines.ChartsWords.Literals.{HaveLiteralTexts}
use Rattle.report_definition.specs.Below.chart_lines.declared.charts.chart.Line.{Line}
use Rattle.report_definition.specs.Below.chart_lines.declared.charts.level.Level.{Level}
use Rattle.report_definition.specs.Below.chart_lines.declared.charts.statement.Field.{Field}
use Rattle.report_definition.specs.Below.chart_lines.declared.charts.statement.FieldKind.{FieldKind}
use Rattle.report_definition.specs.Below.chart_lines.declared.charts.statement.FieldKind.TheVariants as holds
use Rattle.report_definition.specs.Below.chart_lines.declared.charts.statement.Mark.{Mark}
use Rattle.report_definition.specs.Below.chart_lines.declared.charts.statement.Statement.TheVariants as says
use Rattle.report_definition.specs.Below.chart_lines.declared.charts.statement.TotalLine.{TotalLine}
use Rattle.report_definition.specs.FollowedDecks.Alike.{AlikeWith}
use Rattle.proof_reports.specs.Below.hubs.SetupsWords.Wiring.{Wiring}
use Rattle.proof_reports.specs.Below.hubs.declared.hub.Group.{Group}
use Rattle.proof_reports.proofs.WiredPanels.CycleAsks.AmountFacts.{digits_are, has_it, total_field}
use Rattle.proof_reports.proofs.WiredPanels.CycleAsks.Counters.{counter_held}
use Rattle.proof_reports.specs.WiredPanels.CycleAsks.CounterStates.{held_in}
use Rattle.proof_reports.specs.WiredPanels.Groups.{IsCounterOf}
use Rattle.proof_reports.proofs.WiredPanels.CycleAsks.JacksAndTape.{wheel_jacks-are}
use Rattle.proof_reports.proofs.Below.chart_line_rules.FieldRules.Places.{is_same_name-own}
use Rattle.report_definition.proofs.Below.chart_rules.Laws.{kept-line}
use Rattle.proof_reports.proofs.WiredPanels.ToCounters.{IsLine, on_line}
use Rattle.proof_reports.proofs.WiredPanels.CycleAsks.WheelRowsLaws.{wheels-totals}
use Rattle.proof_reports.proofs.WiredPanels.CycleAsks.WheelRowsUnits.{counter-is, group-listed, group-named, unit-listed, unit-place}
use Rattle.proof_reports.specs.WiredPanels.CycleAsks.ChartAmounts.{amount_of}
use Rattle.proof_reports.specs.WiredPanels.Panel.{IsPanel}
use Rattle.proof_reports.specs.WiredPanels.PanelCycles.{UnitsHold}
use Rattle.proof_reports.specs.WiredPanels.CycleAsks.PrintedRows as rows
use Rattle.proof_reports.specs.WiredPanels.CycleAsks.PrintedRows.{IsTotalRow}
use Rattle.proof_reports.specs.Below.machine.Cycles.{CycleRun}
use Rattle.proof_reports.specs.Below.machine.Machine.{MachineState}
use Rattle.proof_reports.specs.Below.net.Cycles.{level_number}
use Rattle.proof_reports.specs.Below.net.declared.cycle.Cycle.TheVariants.{Prog}
use Rattle.proof_reports.specs.Below.net.declared.cycle.ProgramLevel.{ProgramLevel}
use Rattle.proof_reports.specs.Below.net.declared.cycle.Ordinal.TheVariants.{Third}
use Rattle.proof_reports.proofs.PrintedLines.Premises.{total_texts}
use Rattle.proof_reports.proofs.PrintedLines.TotalLines.{total_lines}
use Rattle.proof_reports.specs.PrintedLines.Held as printed
use Rattle.proof_reports.specs.PrintedLines.Held.{HoldsLine}
use Rattle.proof_reports.specs.PrintedLines.Shown.{Printed, sent_to_total, set_on}
use Rattle.report_definition.specs.BodyLines.{total_line}
use Rattle.report_definition.specs.Breaks.{taking}
use Rattle.report_definition.specs.Totals.{total_of}
use Rattle.proof_cycles.proofs.WholeCycles.Units.{units-by_name}
use Rattle.proof_cycles.specs.WholeCycles.Between.{IsReady}
use Rattle.proof_cycles.specs.WholeCycles.Units.{group_at, storage_at}
use Rattle.proof_cycles.specs.WholeCycles.WholeCycles.{WholeCycle}
use Rattle.wiring_table.specs.Figures.{IsAmount, IsText}
use Rattle.wiring_table.specs.Parts.{HasTotal, ServesTotal, counter_for, panel_group, unit_for}
use Rattle.wiring_table.proofs.Parts.{unit-there}
use Rattle.proof_reports.specs.PrintedReports.Content.{held}
use Rattle.proof_reports.proofs.PrintedReports.Facts.{ShowsTotal}
use Rattle.proof_reports.proofs.PrintedReports.FromCounters.{held_pair, held_there, pair_there}
use Rattle.proof_reports.proofs.PrintedReports.FromCycles.{whole}
use Rattle.proof_reports.proofs.PrintedReports.FromTotals.{controlled, first_same}
use Rattle.proof_reports.proofs.PrintedReports.FromWheels.{on_panel, row_of}
use Rattle.proof_reports.proofs.PrintedReports.Lines.{has_link, has_suppress, has_symbol, line_of_cycle}

-- an amount with a mark has a sign rule
marked_signed : (kind : FieldKind) (mark : Option Mark) → is_amount kind ≡ true → is_mismatched_kind kind mark ≡ false
    → is_some mark ≡ true → is_some (sign_column kind) ≡ true
marked_signed holds.Text mark amount good marked = cc
marked_signed (holds.Amount decimals None) (Some mark) amount good marked = cc
marked_signed (holds.Amount decimals None) None amount good marked = cc
marked_signed (holds.Amount decimals (Some rule)) mark amount good marked = refl

-- what the totals of a level hold, by the names of their amounts
abbrev pub printed_held : Chart → Lists → MachineState → ℕ → List ℕ → Printed
printed_held chart plan machine level name = record {
  figure = (held chart plan machine name level).number;
  latch = (held chart plan machine name level).latch;
}

module _ (chart : Chart) (plan : Lists) (wiring : Wiring) (panel : IsPanel chart plan wiring) (rise : NumbersRise chart.lines chart.end)
    (literals : HaveLiteralTexts chart.lines) where
  -- the line of a total, as one of the chart's
  line_is : (line : Line) (total : TotalLine) → Contains chart.lines line → line.statement ≡ says.TotalAmount total
      → IsLine chart.lines line.number (says.TotalAmount total)
  line_is line total there is = record { line = line; listed = there; numbered = refl; says_it = is }

  -- the counter on the line of a total is that of the amount's total
  own_counter : (line : Line) (total : TotalLine) (counter : TotalCounter) (level : ℕ)
      → Contains chart.lines line → line.statement ≡ says.TotalAmount total → levels.level_number total.level ≡ level
      → counter_for chart.lines plan line.number ≡ Some counter → IsCounterOf chart.lines plan total.name level counter
  own_counter line asked counter level there is same served =
      subst (λ n. IsCounterOf chart.lines plan asked.name n counter) same
      (record {
        number = line.number;
        total = on_line chart.lines plan asked line.number (line_is line asked there is);
        served = served;
      })

  module _ (old new : MachineState) (level : ProgramLevel) (card : List ℕ) (so_far : ℕ → List (List ℕ)) (is : IsReady wiring old)
      (all : WholeCycle wiring (Prog level Third) old new) (row : CardRow) where
    -- a group of a total stands among the groups of the machine
    group_there : (number : ℕ) (group : Group) → ServesTotal chart.lines plan number group
        → Contains old.groups (group_at old group) × ((group_at old group).name ≡ group) × IsCounter (group_at old group)
    group_there number group serves =
        let is_group = group-named chart.lines plan number group panel.planned serves in
        (group-listed old is.between group is_group, (units-by_name.groups old group is.between is_group).named, counter-is old is.between group is_group)

    -- what the counters hold
    counters_hold :
        (line : Line) (total : TotalLine) (counter : TotalCounter)
        → Contains chart.lines line → line.statement ≡ says.TotalAmount total
        → levels.level_number total.level ≡ level_number level → counter_for chart.lines plan line.number ≡ Some counter
        → rows.CounterHoldsTotal (row_of chart plan wiring panel rise literals (Prog level Third) old new all row) counter
        (printed_held chart plan old (level_number level) total.name)
    counters_hold line total counter there says same served =
        by counter served
        (counter_held old chart plan total.name (level_number level) counter panel.lawful
        (own_counter line total counter (level_number level) there says same served))
      where
        by : (counter : TotalCounter) → counter_for chart.lines plan line.number ≡ Some counter
            → held chart plan old total.name (level_number level) ≡ held_in old (Some counter)
            → rows.CounterHoldsTotal (row_of chart plan wiring panel rise literals (Prog level Third) old new all row) counter
            (printed_held chart plan old (level_number level) total.name)
        by (of.Single group) served state =
            let (listed, named, lawful) = group_there line.number (panel_group group)
            (record { counter = of.Single group; there = served; has = refl }) in
            let holds = state ∙ held_there old (group_at old (panel_group group)) (panel_group group) is.between listed named in
            record { figure = sym (ap (λ h. h.number) holds); latch = sym (ap (λ h. h.latch) holds) }
        by (of.Coupled lower upper) served state =
            let (listed, named, lawful) = group_there line.number (panel_group upper)
            (record { counter = of.Coupled lower upper; there = served; has = inr refl }) in
            let (and_listed, and_named, and_lawful) = group_there line.number (panel_group lower)
            (record { counter = of.Coupled lower upper; there = served; has = inl refl }) in
            let holds = state ∙ (λ i. held_pair old (sym named i) (sym and_named i))
            ∙ pair_there old (group_at old (panel_group upper)) (group_at old (panel_group lower)) is.between listed and_listed in
            record { figure = sym (ap (λ h. h.number) holds); latch = sym (ap (λ h. h.latch) holds) }

    -- a text on a total line is a text
    is_text_field : (line : Line) (its : Level) (wheel : ℕ) (name : List ℕ) (field : Field) → Contains chart.lines line
        → line.statement ≡ says.TotalText its wheel name → field_named chart.lines name ≡ Some field → IsText chart.lines name field
    is_text_field line its wheel name field there says named =
        let (earlier, right) = kept-line chart panel.lawful line there rule.WrongKind in
        record {
          named = named;
          holds_text = sym (ap names_amount named) ∙ sym (ap (breaks_wrong_kind (fields_of chart.lines)) says) ∙ right;
        }

    -- what the units hold
    units_hold :
        UnitsHold chart.lines plan card old.storage
        → (line : Line) (its : Level) (wheel : ℕ) (name : List ℕ) (field : Field) (unit j : ℕ)
        → Contains chart.lines line → line.statement ≡ says.TotalText its wheel name
        → levels.level_number its ≡ level_number level → unit_for plan line.number ≡ Some unit
        → field_named chart.lines name ≡ Some field → j < columns_of field
        → holds_column (storage_at old unit) row (j + 1) ≡ has_row (column_of card (field.first + j)) (row_number row)
    units_hold stored line its wheel name field unit j there says same served named less =
        let (low, high) = unit-there chart.lines plan panel.planned line.number unit served in
        stored line its wheel name field unit (storage_at old unit) row j there says
        (is_text_field line its wheel name field there says named) served (unit-listed old is.between unit low high)
        (unit-place old is.between unit low high) less

    -- the row of the third cycle
    pub total_row : UnitsHold chart.lines plan card old.storage
        → IsTotalRow wiring level (printed_held chart plan old (level_number level)) card
        (row_of chart plan wiring panel rise literals (Prog level Third) old new all row)
    total_row stored = record {
      on_panel = on_panel chart plan wiring panel rise literals (Prog level Third) old new is all;
      rises = rise;
      cycle = refl;
      totals = counters_hold;
      texts = units_hold stored;
    }

  -- the totals and the texts of a level, as the printed line wants them
  holds_line :
      (old : MachineState) (level : ℕ) (card : List ℕ) (so_far : ℕ → List (List ℕ)) → IsValidCard chart card
      → AlikeWith chart.lines so_far card
      → ((name : List ℕ) (field : Field) → IsAmount chart.lines name field → (amount_of chart.lines plan name).has level ≡ true
      → ShowsTotal chart plan level (taking card so_far level) name field (held chart plan old name level))
      → HoldsLine chart.lines level (taking card so_far level) (printed_held chart plan old level) card
  holds_line old level card so_far valid alike shows = record {
    amounts = λ line total field there says same named. by_level line total field there says named level same shows;
    texts = λ line its wheel name field there says same named.
        let by = controlled chart line its wheel name field panel.lawful there says named in
        let low : level ≤ by.above = subst (λ n. n ≤ by.above) same by.low in
        let alike_columns = first_same chart.lines so_far card level by.above field alike low by.high by.controls in
        let is_text = total_texts chart card line its wheel name field panel.lawful valid there says named in
        record {
          same = alike_columns;
          is_text = λ column from to.
              ap (λ c. is_printed (deck_character c)) (sym (alike_columns column from to)) ∙ is_text column from to;
        };
  }
    where
      by_level :
          (line : Line) (total : TotalLine) (field : Field)
          → Contains chart.lines line → line.statement ≡ says.TotalAmount total
          → field_named chart.lines total.name ≡ Some field → (n : ℕ) → levels.level_number total.level ≡ n
          → ((name : List ℕ) (field : Field) → IsAmount chart.lines name field → (amount_of chart.lines plan name).has n ≡ true
          → ShowsTotal chart plan n (taking card so_far n) name field (held chart plan old name n))
          → printed.HoldsTotal total.digits total.mark (total_of field (taking card so_far n)) (printed_held chart plan old n total.name)
      by_level line asked field there says named n same shows =
          let total_at : HasTotal chart.lines asked.name (levels.level_number asked.level) line.number
          = record {
            line = line;
            listed = there;
            is_number = refl;
            asked = asked;
            says_total = says;
            same_level = refl;
            same_name = is_same_name-own asked.name;
          } in
          let total = subst (λ k. HasTotal chart.lines asked.name k line.number) same total_at in
          let found_amount = total_field chart asked.name n line.number panel.lawful total in
          let same_field : found_amount.0 ≡ field = one_field found_amount.1.named named in
          let amount : IsAmount chart.lines asked.name field = subst (λ f. IsAmount chart.lines asked.name f) same_field found_amount.1 in
          let has = has_it chart.lines plan asked.name n line.number total in
          let shown = shows asked.name field amount has in
          let many : (amount_of chart.lines plan asked.name).digits (levels.level_number asked.level) ≡ asked.digits
          = digits_are chart plan asked.name (levels.level_number asked.level) line.number panel.lawful total_at in
          let many_here : (amount_of chart.lines plan asked.name).digits n ≡ asked.digits
          = ap (amount_of chart.lines plan asked.name).digits (sym same) ∙ many in
          let (earlier, right) = kept-line chart panel.lawful line there rule.MarkMismatch in
          let good : is_mismatched (field_named chart.lines asked.name) asked.mark ≡ false
          = sym (ap (breaks_mark_mismatch (fields_of chart.lines)) says) ∙ right in
          let good_kind : is_mismatched_kind field.kind asked.mark ≡ false
          = sym (ap (λ (o : Option Field). is_mismatched o asked.mark) named) ∙ good in
          record {
            fits = subst (λ d. unsigned_abs (total_of field (taking card so_far n)) < 10 ^ d) many_here shown.fits;
            figure = shown.figure;
            below = λ marked less. shown.below less;
            above = λ marked less some.
                shown.above (ap (λ (o : Option Field). has_sign o) named
                ∙ marked_signed field.kind asked.mark amount.holds_amount good_kind marked) less some;
          }
        where
          one_field : {a b : Field} {o : Option Field} → o ≡ Some a → o ≡ Some b → a ≡ b
          one_field one other = let e = sym one ∙ other in cc

  -- The third program cycle of a level prints the total line of its group.
  pub total_prints :
      (old new : MachineState) (level : ProgramLevel) (card : List ℕ) (so_far : ℕ → List (List ℕ)) → IsReady wiring old
      → CycleRun wiring (Prog level Third) old new → UnitsHold chart.lines plan card old.storage → IsValidCard chart card
      → AlikeWith chart.lines so_far card
      → ((name : List ℕ) (field : Field) → IsAmount chart.lines name field
      → (amount_of chart.lines plan name).has (level_number level) ≡ true
      → ShowsTotal chart plan (level_number level) (taking card so_far (level_number level)) name field
      (held chart plan old name (level_number level)))
      → new.wheels.line ≡ total_line chart.lines (level_number level) (taking card so_far (level_number level))
  total_prints old new level card so_far is run stored valid alike shows =
      let all = whole wiring (Prog level Third) old new is run in
      let heldp = printed_held chart plan old (level_number level) in
      let set_of = set_on (sent_to_total chart.lines (level_number level) heldp card) in
      line_of_cycle wiring (Prog level Third) old new set_of is all
      (λ row v low high. wheels-totals wiring level heldp card
      (row_of chart plan wiring panel rise literals (Prog level Third) old new all row) v
      (total_row old new level card so_far is all row stored))
      ∙ total_lines chart (has_link wiring) (has_suppress wiring) (has_symbol wiring) (level_number level)
      (taking card so_far (level_number level)) heldp card panel.lawful literals (wheel_jacks-are chart plan wiring panel)
      (holds_line old (level_number level) card so_far valid alike shows)
