-- In the third program cycle of a level what lines send to its total line arrives at its wheels.
use Rattle.std.proofs.Common.{◌≡◌, ◌∙◌, refl, sym, ap, ap₂, subst, ℕ, ◌+◌, ◌<◌, ◌≤◌, ◌==◌, Bool, true, false, cond, List, Contains, Option, Some, None, length, map, slice_get, option_map, arith}
use Rattle.std.proofs.lemmas.Bool.Decides.{nat_tests}
use Rattle.std.proofs.lemmas.List.{length-map}
use Rattle.proof_cycles.specs.TotalsWords.CounterCycles.Acts.{digit_of}
use Rattle.proof_reports.specs.Below.card_code.CardCode.{has_row}
use Rattle.proof_reports.specs.Below.card_code.Rows.{row_number}
use Rattle.proof_reports.specs.Below.chart_line_rules.FieldRules.Fields.{field_named, fields_of}
use Rattle.proof_reports.specs.Below.chart_line_rules.PrintRules.Items.{item_of, text_item, total_item, figure_width}
use Rattle.proof_reports.specs.Below.chart_line_rules.PrintRules.Marks.{is_mismatched, is_mismatched_kind}
use Rattle.proof_reports.specs.Below.chart_line_rules.FieldRules.Names.{names_amount}
use Rattle.proof_reports.specs.Below.chart_rules.Rules.{IsLawful, breaks}
use Rattle.proof_reports.specs.Below.chart_rules.ValidCard.{column_of}
use Rattle.proof_reports.specs.Below.chart_line_rules.PrintRules.Wheels.{HasWheel}
use Rattle.proof_reports.specs.Below.chart_line_rules.declared.print_rules.items.Item.{Item}
use Rattle.proof_reports.specs.Below.chart_line_rules.declared.print_rules.items.PrintedLine.TheVariants.{Body}
use Rattle.proof_reports.specs.Below.chart_rules.declared.rule.Rule.TheVariants as rule
use Rattle.proof_reports.specs.Below.chart_lines.ChartsWords.Chart.{Chart}
use Rattle.proof_reports.specs.Below.chart_lines.ChartsWords.Field.{columns_of, decimals_of, is_amount}
use Rattle.proof_reports.specs.Below.chart_lines.ChartsWords.Levels.{level_number as chart_number}
use Rattle.proof_reports.specs.Below.chart_lines.declared.charts.chart.Line.{Line}
use Rattle.proof_reports.specs.Below.chart_lines.declared.charts.level.Level.{Level}
use Rattle.proof_reports.specs.Below.chart_lines.declared.charts.statement.BodyLine.TheVariants as body
use Rattle.proof_reports.specs.Below.chart_lines.declared.charts.statement.Field.{Field}
use Rattle.proof_reports.specs.Below.chart_lines.declared.charts.statement.FieldKind.TheVariants as holds
use Rattle.proof_reports.specs.Below.chart_lines.declared.charts.statement.FieldKind.{FieldKind}
use Rattle.proof_reports.specs.Below.chart_lines.declared.charts.statement.Mark.{Mark}
use Rattle.proof_reports.specs.Below.chart_lines.declared.charts.statement.SignRule.{SignRule}
use Rattle.proof_reports.specs.Below.chart_lines.declared.charts.statement.Statement.TheVariants as says
use Rattle.proof_reports.specs.Below.chart_lines.declared.charts.statement.TotalLine.{TotalLine}
use Rattle.proof_reports.specs.Below.chart_lines.declared.charts.statement.Statement.{Statement}
use Rattle.proof_reports.specs.Below.hubs.HubTable.Ranges.{is_within}
use Rattle.proof_reports.specs.Below.hubs.SetupsWords.Wiring.{Wiring}
use Rattle.proof_reports.specs.Below.hubs.declared.hub.Hub.TheVariants.{EM, W, PX, RO, SO}
use Rattle.proof_cycles.specs.Below.net.Cycles.{level_number}
use Rattle.proof_cycles.specs.Below.net.declared.cycle.Cycle.TheVariants.{Prog}
use Rattle.proof_cycles.specs.Below.net.declared.cycle.ProgramLevel.{ProgramLevel}
use Rattle.proof_cycles.specs.Below.net.declared.cycle.Ordinal.TheVariants.{Third}
use Rattle.proof_cycles.specs.Below.net.declared.cycle.Point.TheVariants.{C}
use Rattle.print_unit.specs.Emitters.{emitter_of}
use Rattle.proof_reports.specs.PrintedLines.Shown.Shown.{Characters}
use Rattle.proof_reports.specs.PrintedLines.Shown.{Shown, Printed, set_of_character, total_sends}
use Rattle.report_definition.specs.Amounts.{columns_in}
use Rattle.report_definition.specs.Edits.{last_digits}
use Rattle.proof_cycles.proofs.WholeCycles.Units.{units-by_name}
use Rattle.proof_cycles.specs.WholeCycles.Units.{group_at, storage_at}
use Rattle.wiring_table.specs.Figures.IsFigure.{on_total as figure_on_total}
use Rattle.wiring_table.specs.Figures.IsLiteral.{on_total}
use Rattle.wiring_table.specs.Figures.{IsText, IsAmount, IsSigned, rule_of}
use Rattle.proof_reports.specs.Below.chart_plans.declared.plans.counter.TotalCounter.{TotalCounter}
use Rattle.wiring_table.specs.Parts.{ServesPosition, counter_for, top_for, top_group}
use Rattle.wiring_table.specs.Wires.LineWire.{literal, point, total_digit, total_mark_in, total_mark_out, total_text_out}
use Rattle.proof_reports.specs.WiredPanels.CycleRows.{CycleRow}
use Rattle.proof_reports.specs.WiredPanels.Groups.{IsGroupOf}
use Rattle.proof_reports.specs.WiredPanels.CycleAsks.PrintedRows.{IsTotalRow}
use Rattle.proof_reports.specs.WiredPanels.Sources.EmitsAtControl.{prog as emits_prog}
use Rattle.proof_reports.specs.WiredPanels.Sources.EmitsAtRow.{digit, column, emitter}
use Rattle.proof_reports.specs.WiredPanels.Sources.{EmitsAtControl, digit_from_units}
use Rattle.proof_reports.proofs.WiredPanels.ReadingOut.{reads-total, reads-text}
use Rattle.proof_reports.proofs.WiredPanels.ToCounters.{with_group}
use Rattle.proof_reports.proofs.WiredPanels.ToWheels.{ArrivesThere, Emits, along, along_contact}
use Rattle.wiring_table.proofs.Parts.{unit-given}
use Rattle.wiring_table.proofs.Groups as groups
use Rattle.wiring_table.proofs.Totals.{total-of}
use Rattle.proof_reports.proofs.WiredPanels.SpeakersLawful.{kept-at}
use Rattle.proof_reports.proofs.WiredPanels.CycleAsks.WheelRows.IsLineOf.{total as its_total}
use Rattle.proof_reports.proofs.WiredPanels.CycleAsks.WheelRows.{IsLineOf, SendsRow, stands_on, sent_on}
use Rattle.proof_reports.proofs.WiredPanels.CycleAsks.WheelRowsCardLine.{mark-few}
use Rattle.proof_reports.proofs.WiredPanels.CycleAsks.WheelRowsField.{both-of}
use Rattle.proof_reports.proofs.WiredPanels.CycleAsks.WheelRowsFigure.FigureSends.{digit as figure_digit, point as figure_point, marked as figure_marked}
use Rattle.proof_reports.proofs.WiredPanels.CycleAsks.WheelRowsFigure.{FigureSends, amount_shown, figure-of, length-sets}
use Rattle.proof_reports.proofs.WiredPanels.CycleAsks.WheelRowsText.{literal-of, standing, columns-sent, columns-of}
use Rattle.proof_reports.proofs.WiredPanels.CycleAsks.WheelRowsTotal.{total-amount, total-digits, digits-long, digit-shown, held-digit, closed-BAT}
use Rattle.proof_reports.proofs.WiredPanels.CycleAsks.WheelRowsUnits.{group-named, group-listed, counter-is, unit-listed, unit-place}
use Rattle.report_definition.proofs.EditLaws.{last_digits-length}

-- what a total line's line sends
pub record SendsTotal (lines : List Line) (number : ℕ) (held : List ℕ → Printed) (total : TotalLine) (sent : Shown) : Type 0 where
  pub field : Field
  pub same : chart_number total.level ≡ number
  pub named : field_named lines total.name ≡ Some field
  pub is : sent ≡ amount_shown total.wheel total.digits (decimals_of field.kind) total.mark (map Some (last_digits total.digits (held total.name).figure)) (held total.name).latch

pub total-tested : (lines : List Line) (number : ℕ) (held : List ℕ → Printed) (card : List ℕ) (total : TotalLine) (sent : Shown)
    → total_sends lines number held card (says.TotalAmount total) ≡ Some sent
    → SendsTotal lines number held total sent
total-tested lines number held card total sent is = by (chart_number total.level == number) (field_named lines total.name) refl refl is
  where
    by : (b : Bool) (o : Option Field) → (chart_number total.level == number) ≡ b → field_named lines total.name ≡ o
        → cond b (option_map (λ each. amount_shown total.wheel total.digits (decimals_of each.kind) total.mark (map Some (last_digits total.digits (held total.name).figure)) (held total.name).latch) o) None
        ≡ Some sent → SendsTotal lines number held total sent
    by true (Some field) same named there = record { field = field; same = grind (arith, nat_tests, same); named = named; is = cc }
    by true None same named there = cc
    by false o same named there = cc

pub record SendsText (lines : List Line) (number : ℕ) (card : List ℕ) (its : Level) (wheel : ℕ) (name : List ℕ) (sent : Shown) : Type 0 where
  pub field : Field
  pub same : chart_number its ≡ number
  pub named : field_named lines name ≡ Some field
  pub is : sent ≡ Characters wheel (map (column_of card) (columns_in field))

pub text-tested : (lines : List Line) (number : ℕ) (held : List ℕ → Printed) (card : List ℕ) (its : Level) (wheel : ℕ) (name : List ℕ) (sent : Shown)
    → total_sends lines number held card (says.TotalText its wheel name) ≡ Some sent → SendsText lines number card its wheel name sent
text-tested lines number held card its wheel name sent is = by (chart_number its == number) (field_named lines name) refl refl is
  where
    by : (b : Bool) (o : Option Field) → (chart_number its == number) ≡ b → field_named lines name ≡ o
        → cond b (option_map (λ each. Characters wheel (map (column_of card) (columns_in each))) o) None ≡ Some sent
        → SendsText lines number card its wheel name sent
    by true (Some field) same named there = record { field = field; same = grind (arith, nat_tests, same); named = named; is = cc }
    by true None same named there = cc
    by false o same named there = cc

literal-tested : (lines : List Line) (number : ℕ) (held : List ℕ → Printed) (card : List ℕ) (its : Level) (wheel : ℕ) (characters : List ℕ) (sent : Shown)
    → total_sends lines number held card (says.TotalLiteral its wheel characters) ≡ Some sent
    → (chart_number its ≡ number) × (sent ≡ Characters wheel (map set_of_character characters))
literal-tested lines number held card its wheel characters sent is = by (chart_number its == number) refl is
  where
    by : (b : Bool) → (chart_number its == number) ≡ b → cond b (Some (Characters wheel (map set_of_character characters))) None ≡ Some sent
        → (chart_number its ≡ number) × (sent ≡ Characters wheel (map set_of_character characters))
    by true same there = (grind (arith, nat_tests, same), cc)
    by false same there = cc

-- a total with a mark is of an amount with a sign rule
total-ruled : (chart : Chart) (place : ℕ) (line : Line) (total : TotalLine) (own : Mark) (field : Field)
    → IsLawful chart → slice_get chart.lines place ≡ Some line → line.statement ≡ says.TotalAmount total → total.mark ≡ Some own
    → field_named chart.lines total.name ≡ Some field → is_amount field.kind ≡ true → (r : SignRule) × (rule_of field.kind ≡ Some r)
total-ruled chart place line total own field lawful at says_it marked named amount =
    let kept = kept-at rule.MarkMismatch chart place line lawful at in
    let e : is_mismatched (field_named chart.lines total.name) total.mark ≡ false
    = sym (ap (λ s. breaks rule.MarkMismatch chart.lines chart.lines s) says_it) ∙ kept in
    by field.kind amount (sym (ap₂ is_mismatched named marked) ∙ e)
  where
    by : (kind : FieldKind) → is_amount kind ≡ true → is_mismatched_kind kind (Some own) ≡ false → (r : SignRule) × (rule_of kind ≡ Some r)
    by holds.Text amount kept = cc
    by (holds.Amount decimals None) amount kept = cc
    by (holds.Amount decimals (Some r)) amount kept = (r, refl)

-- a text on a total line is of a field of characters
text-kind : (chart : Chart) (place : ℕ) (line : Line) (its : Level) (wheel : ℕ) (name : List ℕ) (field : Field) → IsLawful chart
    → slice_get chart.lines place ≡ Some line → line.statement ≡ says.TotalText its wheel name → field_named chart.lines name ≡ Some field
    → is_amount field.kind ≡ false
text-kind chart place line its wheel name field lawful at says_it named =
    let kept = kept-at rule.WrongKind chart place line lawful at in
    let e : names_amount (field_named chart.lines name) ≡ false = sym (ap (λ s. breaks rule.WrongKind chart.lines chart.lines s) says_it) ∙ kept in
    sym (ap names_amount named) ∙ e

module _ (wiring : Wiring) (its : ProgramLevel) (held : List ℕ → Printed) (card : List ℕ) (at : CycleRow) (row : IsTotalRow wiring its held card at) where
  emits-its : (level : Level) → chart_number level ≡ level_number its → Emits at (EM (4 + chart_number level) (row_number at.row))
  emits-its level same = emitter (4 + chart_number level) (ap emitter_of row.cycle ∙ ap (λ n. Some (4 + n)) (sym same))

  figure-arrives : (line : Line) (place : ℕ) (total : TotalLine) (field : Field) (counter : TotalCounter) {v : ℕ} → slice_get at.chart.lines place ≡ Some line → Contains at.chart.lines line
      → line.statement ≡ says.TotalAmount total → IsAmount at.chart.lines total.name field → chart_number total.level ≡ level_number its
      → counter_for at.chart.lines at.plan line.number ≡ Some counter
      → FigureSends total.wheel total.digits (decimals_of field.kind) total.mark (map Some (last_digits total.digits (held total.name).figure)) (held total.name).latch (row_number at.row) v
      → ArrivesThere at (W v)
  figure-arrives line place total field counter listed there says_it is same served (figure_digit position from to on) =
      let planned = row.on_panel.panel.planned in
      let (group, its_place, serves) = groups.position-given at.chart.lines at.plan planned at.chart.end total.name (chart_number total.level) line.number
      counter row.rises (total-of at.chart.lines line total there says_it) served position from to in
      let serving = groups.position-serves at.chart.lines at.plan line.number position group its_place serves in
      let named = group-named at.chart.lines at.plan line.number group planned serving in
      let holds = row.totals line total serves.counter there says_it same serves.there in
      let by_name : (group_at at.old group).name ≡ group = (units-by_name.groups at.old group row.on_panel.between named).named in
      let wide = serves.at.to in
      let some_place = serves.at.from in
      let positions : length (group_at at.old group).digits ≡ group.width
      = (counter-is at.old row.on_panel.between group named).positions ∙ ap (λ g. g.width) by_name in
      let long : its_place ≤ length (group_at at.old group).digits = omega (arith, wide, positions) in
      let own : IsGroupOf at.chart.lines at.plan total.name (level_number its) group
      = subst (λ n. IsGroupOf at.chart.lines at.plan total.name n group) same
      (with_group at.chart.lines at.plan total line.number group
      (record { line = line; listed = there; numbered = refl; says_it = says_it }) serving) in
      let out : at.pictures C (RO group) ≡ true = reads-total wiring at row.on_panel row.rises its row.cycle total.name group own in
      let test : (digit_of (held total.name).figure position == row_number at.row) ≡ true
      = sym (digit-shown wiring its held card at row total.digits total.name position (row_number at.row) from to) ∙ on in
      let shows : digit_from_units (group_at at.old group).digits its_place ≡ row_number at.row
      = held-digit wiring its held card at row line.number serves.counter total.name position group its_place serves.there serves.at named holds long
      ∙ equal (digit_of (held total.name).figure position) (row_number at.row) test in
      along wiring at row.on_panel row.rises line there says_it
      (total_digit total field (group_at at.old group).name position its_place
      (subst (λ g. ServesPosition at.chart.lines at.plan line.number position g its_place) (sym by_name) serves) is from to)
      (digit (group_at at.old group) its_place (group-listed at.old row.on_panel.between group named)
      (ap (λ g. at.pictures C (RO g)) by_name ∙ out) some_place long shows)
    where
      equal : (a b : ℕ) → (a == b) ≡ true → a ≡ b
      equal a b e = grind (arith, nat_tests, e)
  figure-arrives line place total field counter listed there says_it is same served (figure_point some punch) =
      along wiring at row.on_panel row.rises line there says_it
      (point (says.TotalAmount total) (4 + chart_number total.level) total.wheel
      (record { digits = total.digits; decimals = decimals_of field.kind; mark = total.mark }) (row_number at.row)
      (figure_on_total total field is) some punch) (emits-its total.level same)
  figure-arrives line place total field counter listed there says_it is same served (figure_marked own k marked below punch) =
      let balance : top_for at.chart.lines at.plan line.number ≡ Some (top_group counter) = ap (option_map top_group) served in
      let named = group-named at.chart.lines at.plan line.number (top_group counter) row.on_panel.panel.planned
      (groups.top-serves at.chart.lines at.plan line.number (top_group counter) balance) in
      let holds = row.totals line total counter there says_it same served in
      let (rule, ruled) = total-ruled at.chart place line total own field row.on_panel.panel.lawful listed says_it marked is.named is.holds_amount in
      let few = mark-few own k (row_number at.row) punch in
      let within : is_within (3 + k) 4 ≡ true = grind (arith, nat_tests, few) in
      let signed : IsSigned at.chart.lines total.name rule = record { field = field; named = is.named; ruled = ruled } in
      along_contact wiring at row.on_panel row.rises line there says_it
      (total_mark_in total own rule (top_group counter) k (row_number at.row) marked balance signed punch) (emits-its total.level same) refl
      (closed-BAT wiring its held card at row (top_group counter) (3 + k) named
      ∙ both-of (is_within (3 + k) 4) (group_at at.old (top_group counter)).latch within (holds.latch ∙ below))
      (total_mark_out total own rule field (top_group counter) k (row_number at.row) marked balance signed is.named punch)

  -- a text by its storage unit
  text-arrives : (line : Line) (place : ℕ) (level : Level) (wheel : ℕ) (name : List ℕ) (field : Field) (j : ℕ)
      → slice_get at.chart.lines place ≡ Some line → Contains at.chart.lines line → line.statement ≡ says.TotalText level wheel name
      → IsText at.chart.lines name field → chart_number level ≡ level_number its → j < columns_of field
      → has_row (column_of card (field.first + j)) (row_number at.row) ≡ true → ArrivesThere at (W (wheel + j))
  text-arrives line place level wheel name field j listed there says_it is same within punched =
      let planned = row.on_panel.panel.planned in
      let served = unit-given at.chart.lines at.plan planned line level wheel name there says_it in
      let from = served.from in
      let to = served.to in
      let to_four : served.n ≤ 4 = omega (arith, to) in
      let placed = unit-place at.old row.on_panel.between served.n from to_four in
      let out : at.pictures C (SO served.n) ≡ true = reads-text wiring at row.on_panel its row.cycle served.n (record {
        line = line;
        listed = there;
        level = level;
        wheel = wheel;
        name = name;
        is_text = says_it;
        served = served.is;
        printed = subst (λ n. EmitsAtControl (Prog its Third) (PX n 3)) (sym same) (emits_prog its Third);
      }) in
      along wiring at row.on_panel row.rises line there says_it
      (total_text_out level wheel name field ((storage_at at.old served.n).place) j is within (served.is ∙ ap Some (sym placed)))
      (column (storage_at at.old served.n) (j + 1) (unit-listed at.old row.on_panel.between served.n from to_four)
      (ap (λ u. at.pictures C (SO u)) placed ∙ out)
      (row.texts line level wheel name field served.n j there says_it same served.is is.named within ∙ punched))

  pub sends-arrives : (line : Line) (place : ℕ) (statement : Statement) (v : ℕ) → slice_get at.chart.lines place ≡ Some line
      → Contains at.chart.lines line → line.statement ≡ statement
      → SendsRow (total_sends at.chart.lines (level_number its) held card) statement v (row_number at.row) → ArrivesThere at (W v)
  sends-arrives line place (says.TotalLiteral level wheel characters) v listed there says_it sent =
      let (same, shown) = literal-tested at.chart.lines (level_number its) held card level wheel characters sent.shown sent.is_sent in
      let on = literal-of wheel characters v at.row (sym (ap (λ s. stands_on s v) shown) ∙ sent.there)
      (sym (ap (λ s. has_row (sent_on s v) (row_number at.row)) shown) ∙ sent.on) in
      subst (λ w. ArrivesThere at (W w)) (sym on.is)
      (along wiring at row.on_panel row.rises line there says_it
      (literal (says.TotalLiteral level wheel characters) (4 + chart_number level) wheel characters on.j (row_number at.row)
      (on_total level wheel characters) on.punch) (emits-its level same))
  sends-arrives line place (says.TotalText level wheel name) v listed there says_it sent =
      let t = text-tested at.chart.lines (level_number its) held card level wheel name sent.shown sent.is_sent in
      let text_kind = text-kind at.chart place line level wheel name t.field row.on_panel.panel.lawful listed says_it t.named in
      let s = columns-of wheel card t.field v (sym (ap (λ x. stands_on x v) t.is) ∙ sent.there) in
      let punched : has_row (column_of card (t.field.first + s.j)) (row_number at.row) ≡ true
      = sym (ap (λ x. has_row (sent_on x v) (row_number at.row)) t.is
      ∙ ap (λ w. has_row (sent_on (Characters wheel (map (column_of card) (columns_in t.field))) w) (row_number at.row)) s.is
      ∙ ap (λ x. has_row x (row_number at.row)) (columns-sent wheel card t.field s.j s.within)) ∙ sent.on in
      subst (λ w. ArrivesThere at (W w)) (sym s.is)
      (text-arrives line place level wheel name t.field s.j listed there says_it (record { named = t.named; holds_text = text_kind }) t.same s.within punched)
  sends-arrives line place (says.TotalAmount total) v listed there says_it sent =
      let t = total-tested at.chart.lines (level_number its) held card total sent.shown sent.is_sent in
      let lawful = row.on_panel.panel.lawful in
      let amount = total-amount at.chart place line total t.field lawful listed says_it t.named in
      let few = total-digits at.chart place line total t.field lawful listed says_it t.named in
      let (counter, served) = groups.counter-given at.chart.lines at.plan total.name (chart_number total.level) line.number row.on_panel.panel.planned
      (total-of at.chart.lines line total there says_it) in
      figure-arrives line place total t.field counter listed there says_it
      (record { named = t.named; holds_amount = amount }) t.same served
      (figure-of total.wheel total.digits (decimals_of t.field.kind) total.mark (map Some (last_digits total.digits (held total.name).figure)) (held total.name).latch at.row v few
      (digits-long wiring its held card at row total.digits total.name) (sym (ap (λ x. stands_on x v) t.is) ∙ sent.there)
      (sym (ap (λ x. has_row (sent_on x v) (row_number at.row)) t.is) ∙ sent.on))
  sends-arrives line place other v listed there says_it sent = let none = sent.is_sent in cc

pub item-of : (chart : Chart) (its : ProgramLevel) (held : List ℕ → Printed) (card : List ℕ) (v : ℕ) (place : ℕ) (line : Line) (statement : Statement) (sent : Shown)
    → IsLawful chart → slice_get chart.lines place ≡ Some line → line.statement ≡ statement
    → total_sends chart.lines (level_number its) held card statement ≡ Some sent → stands_on sent v ≡ true
    → (item : Item) × (item_of (fields_of chart.lines) statement ≡ Some item) × HasWheel item v × IsLineOf (Prog its Third) item.line
item-of chart its held card v place line (says.TotalLiteral level wheel characters) sent lawful listed says_it is there =
    let (same, shown) = literal-tested chart.lines (level_number its) held card level wheel characters sent is in
    let s = standing (Characters wheel (map set_of_character characters)) v (sym (ap (λ s. stands_on s v) shown) ∙ there) in
    let n = length-map characters set_of_character in
    (text_item (Body (body.Total level)) wheel (length characters), refl, (omega (arith, s.is), omega (arith, s.is, s.within, n)), its_total its level same)
item-of chart its held card v place line (says.TotalText level wheel name) sent lawful listed says_it is there =
    let t = text-tested chart.lines (level_number its) held card level wheel name sent is in
    let s = columns-of wheel card t.field v (sym (ap (λ x. stands_on x v) t.is) ∙ there) in (
      text_item (Body (body.Total level)) wheel (columns_of t.field),
      ap (option_map (λ field. text_item (Body (body.Total level)) wheel (columns_of field))) t.named,
      (omega (arith, s.is), omega (arith, s.is, s.within)),
      its_total its level t.same,
    )
item-of chart its held card v place line (says.TotalAmount total) sent lawful listed says_it is there =
    let t = total-tested chart.lines (level_number its) held card total sent is in
    let few = total-digits chart place line total t.field lawful listed says_it t.named in
    let s = standing (amount_shown total.wheel total.digits (decimals_of t.field.kind) total.mark (map Some (last_digits total.digits (held total.name).figure)) (held total.name).latch) v
    (sym (ap (λ x. stands_on x v) t.is) ∙ there) in
    let long = length-map (last_digits total.digits (held total.name).figure) Some ∙ last_digits-length total.digits (held total.name).figure in
    let n = length-sets total.digits (decimals_of t.field.kind) total.mark (map Some (last_digits total.digits (held total.name).figure)) (held total.name).latch few long in
    let within : s.j < figure_width (record { digits = total.digits; decimals = decimals_of t.field.kind; mark = total.mark }) = subst (λ m. s.j < m) n s.within in (
      total_item total t.field.kind,
      ap (option_map (λ field. total_item total field.kind)) t.named,
      (omega (arith, s.is), omega (arith, s.is, within)),
      its_total its total.level t.same,
    )
item-of chart its held card v place line other sent lawful listed says_it is there = cc
