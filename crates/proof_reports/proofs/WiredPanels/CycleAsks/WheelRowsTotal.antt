-- What the print wheels receive in the third program cycle of a level: what the totals, the texts and the literals of its total line send.
use Rattle.std.proofs.Common.{◌≡◌, ◌∙◌, refl, sym, ap, subst, ℕ, ◌+◌, ◌-◌, ◌<◌, ◌≤◌, ◌==◌, ◌&&◌, ◌||◌, not, nat_lt, Bool, true, false, cond, List, Contains, Option, Some, None, is_some, length, map, slice_get, get_or, option_map, arith}
use Rattle.std.proofs.lemmas.Bool.Decides.{nat_tests}
use Rattle.std.proofs.lemmas.List.{length-map, get_or-map}
use Rattle.proof_cycles.proofs.TotalsWords.CounterCycles.DigitLemmas.{digit_of-small}
use Rattle.proof_cycles.specs.TotalsWords.CounterCycles.Acts.{digit_of}
use Rattle.proof_reports.specs.Below.card_code.CardCode.{has_row}
use Rattle.proof_reports.specs.Below.card_code.Rows.{row_number}
use Rattle.proof_reports.specs.Below.chart_line_rules.FieldRules.Digits.{is_out_of_digits}
use Rattle.proof_reports.specs.Below.chart_line_rules.FieldRules.Fields.{field_named}
use Rattle.proof_reports.specs.Below.chart_line_rules.FieldRules.Names.{names_text}
use Rattle.proof_reports.specs.Below.chart_rules.Rules.{IsLawful, breaks}
use Rattle.proof_reports.specs.Below.chart_rules.ValidCard.{column_of}
use Rattle.proof_reports.specs.Below.chart_rules.declared.rule.Rule.TheVariants as rule
use Rattle.proof_reports.specs.Below.chart_lines.ChartsWords.Chart.{Chart}
use Rattle.proof_reports.specs.Below.chart_lines.ChartsWords.Field.{columns_of, decimals_of, is_amount, sign_column}
use Rattle.proof_reports.specs.Below.chart_lines.ChartsWords.Levels.{level_number as chart_number}
use Rattle.proof_reports.specs.Below.chart_lines.declared.charts.chart.Line.{Line}
use Rattle.proof_reports.specs.Below.chart_lines.declared.charts.level.Level.{Level}
use Rattle.proof_reports.specs.Below.chart_lines.declared.charts.statement.Field.{Field}
use Rattle.proof_reports.specs.Below.chart_lines.declared.charts.statement.Mark.{Mark}
use Rattle.proof_reports.specs.Below.chart_lines.declared.charts.statement.Statement.TheVariants as says
use Rattle.proof_reports.specs.Below.chart_lines.declared.charts.statement.TotalLine.{TotalLine}
use Rattle.proof_reports.specs.Below.chart_lines.declared.charts.statement.Statement.{Statement}
use Rattle.proof_cycles.specs.Below.counters.Counters.{Counter}
use Rattle.proof_reports.specs.Below.hubs.HubTable.Ranges.{is_within}
use Rattle.proof_reports.specs.Below.hubs.SetupsWords.Wiring.{Wiring}
use Rattle.proof_reports.specs.Below.hubs.declared.hub.Group.{Group}
use Rattle.proof_reports.specs.Below.hubs.declared.hub.Hub.TheVariants.{BAT, PX, RO, SO}
use Rattle.proof_cycles.specs.Below.net.Cycles.{level_number}
use Rattle.proof_reports.specs.Below.hubs.declared.hub.Hub.{Hub}
use Rattle.proof_cycles.specs.Below.net.declared.cycle.Cycle.{Cycle}
use Rattle.proof_cycles.specs.Below.net.declared.cycle.Cycle.TheVariants.{Prog}
use Rattle.proof_cycles.specs.Below.net.declared.cycle.ProgramLevel.{ProgramLevel}
use Rattle.proof_cycles.specs.Below.net.declared.cycle.Ordinal.TheVariants.{Third}
use Rattle.proof_cycles.specs.Below.net.declared.cycle.Point.TheVariants.{C, Row}
use Rattle.proof_reports.specs.PrintedLines.Shown.Shown.{Characters}
use Rattle.proof_reports.specs.PrintedLines.Shown.{Shown, Printed, digit_set, total_sends}
use Rattle.report_definition.specs.Amounts.{columns_in}
use Rattle.report_definition.specs.Edits.{last_digits}
use Rattle.proof_reports.specs.Below.storage_units.Storage.{StorageState, holds as holds_row}
use Rattle.proof_cycles.proofs.WholeCycles.Units.{units-by_name}
use Rattle.std.proofs.lemmas.Option.{same_Some}
use Rattle.proof_reports.specs.Below.chart_plans.declared.plans.counter.TotalCounter.{TotalCounter}
use Rattle.proof_cycles.specs.WholeCycles.Units.{IsGroup, group_at}
use Rattle.wiring_table.specs.Figures.{IsAmount, IsText, HasPunchAt, digit_wheel, mark_wheel, mark_text}
use Rattle.wiring_table.specs.Parts.{IsPlaceOf, ServesPosition, ServesTotal, counter_for, top_for, top_group, unit_for}
use Rattle.proof_reports.specs.WiredPanels.Sources.{EmitsAtControl, digit_from_units}
use Rattle.proof_reports.specs.WiredPanels.Sources.EmitsAtControl.{card as emits_card, prog as emits_prog, head as emits_head}
use Rattle.proof_reports.specs.WiredPanels.CycleRows.{CycleRow, is_closed}
use Rattle.proof_reports.specs.WiredPanels.CycleAsks.PrintedRows.{CounterHoldsTotal, IsTotalRow}
use Rattle.proof_reports.proofs.WiredPanels.ReadingOut.{total-read, text-read}
use Rattle.proof_reports.proofs.Below.chart_lines.ChartsWords.Rising as rising
use Rattle.proof_reports.proofs.Below.chart_rules.Laws.{good-field}
use Rattle.wiring_table.proofs.Groups as groups
use Rattle.wiring_table.proofs.Parts as parts
use Rattle.report_definition.proofs.EditLaws.{last_digits-length}
use Rattle.proof_reports.proofs.WiredPanels.SpeakersLawful.{kept-at}
use Rattle.proof_reports.proofs.WiredPanels.CycleAsks.CounterAsksEntries.{counter_digit}
use Rattle.proof_reports.proofs.WiredPanels.CycleAsks.WheelRows.{SendsRow}
use Rattle.proof_reports.proofs.WiredPanels.CycleAsks.WheelRowsDigits.{digit-row}
use Rattle.proof_reports.proofs.WiredPanels.CycleAsks.WheelRowsField.{right-of}
use Rattle.proof_reports.proofs.WiredPanels.CycleAsks.WheelRowsFigure.FigureSends.{digit as figure_digit, marked as figure_marked}
use Rattle.proof_reports.proofs.WiredPanels.CycleAsks.WheelRowsFigure.{FigureSends, amount_shown, figure-sent}
use Rattle.proof_reports.proofs.WiredPanels.CycleAsks.WheelRowsText.{columns-stand, columns-sent}
use Rattle.proof_reports.proofs.WiredPanels.CycleAsks.WheelRowsUnits.{group-named, group-own, digit-of, unit-own, last-at}

-- the counter with a top group
top-counter : (o : Option TotalCounter) (top : Group) → option_map top_group o ≡ Some top
    → (counter : TotalCounter) × (o ≡ Some counter) × (top_group counter ≡ top)
top-counter None top same = cc
top-counter (Some counter) top same = (counter, refl, same_Some (top_group counter) top same)

-- a total in a chart that breaks no rule is of an amount, in as many digits as its field has columns at least
pub total-amount : (chart : Chart) (place : ℕ) (line : Line) (total : TotalLine) (field : Field)
    → IsLawful chart → slice_get chart.lines place ≡ Some line → line.statement ≡ says.TotalAmount total
    → field_named chart.lines total.name ≡ Some field → is_amount field.kind ≡ true
total-amount chart place line total field lawful at says_it named =
    let kept = kept-at rule.WrongKind chart place line lawful at in
    let e : names_text (field_named chart.lines total.name) ≡ false = sym (ap (λ s. breaks rule.WrongKind chart.lines chart.lines s) says_it) ∙ kept in
    let f : not (is_amount field.kind) ≡ false = sym (ap names_text named) ∙ e in
    by (is_amount field.kind) f
  where
    by : (b : Bool) → not b ≡ false → b ≡ true
    by true h = refl
    by false h = cc

pub total-digits : (chart : Chart) (place : ℕ) (line : Line) (total : TotalLine) (field : Field)
    → IsLawful chart → slice_get chart.lines place ≡ Some line → line.statement ≡ says.TotalAmount total
    → field_named chart.lines total.name ≡ Some field → decimals_of field.kind ≤ total.digits
total-digits chart place line total field lawful at says_it named =
    let kept = kept-at rule.DigitsRange chart place line lawful at in
    let e : is_out_of_digits (field_named chart.lines total.name) total.digits ≡ false
    = sym (ap (λ s. breaks rule.DigitsRange chart.lines chart.lines s) says_it) ∙ kept in
    let f : nat_lt total.digits (columns_of field) ≡ false = first (nat_lt total.digits (columns_of field)) (nat_lt 16 total.digits) (is_some (sign_column field.kind) && nat_lt 15 total.digits) (sym (ap (λ o. is_out_of_digits o total.digits) named) ∙ e) in
    let good = (good-field chart lawful total.name field named).decimals in
    grind (arith, nat_tests, f, good)
  where
    first : (a b c : Bool) → (a || b || c) ≡ false → a ≡ false
    first true b c h = cc
    first false b c h = refl

module _ (wiring : Wiring) (its : ProgramLevel) (held : List ℕ → Printed) (card : List ℕ) (at : CycleRow) (row : IsTotalRow wiring its held card at) where
  abbrev pub Sends : Statement → ℕ → Type 0
  Sends statement v = SendsRow (total_sends at.chart.lines (level_number its) held card) statement v (row_number at.row)

  -- lines with one number
  one-line : (one other : Line) → Contains at.chart.lines one → Contains at.chart.lines other → one.number ≡ other.number → one ≡ other
  one-line one other here there same = rising.one-line at.chart.lines at.chart.end one other row.rises here there same

  -- a line of the level
  pub tested : (level : Level) → chart_number level ≡ level_number its → (chart_number level == level_number its) ≡ true
  tested level same = grind (arith, nat_tests, same)

  -- the digits that a total shows
  pub digits-long : (digits : ℕ) (name : List ℕ) → length (map Some (last_digits digits (held name).figure)) ≡ digits
  digits-long digits name = length-map (last_digits digits (held name).figure) Some ∙ last_digits-length digits (held name).figure

  pub digit-shown : (digits : ℕ) (name : List ℕ) (position row : ℕ) → 1 ≤ position → position ≤ digits
      → has_row (digit_set (get_or (map Some (last_digits digits (held name).figure)) (digits - position) None)) row
      ≡ (digit_of (held name).figure position == row)
  digit-shown digits name position r from to =
      let long = last_digits-length digits (held name).figure in
      ap (λ o. has_row (digit_set o) r)
      (get_or-map Some (last_digits digits (held name).figure) (digits - position) 0 None (omega (arith, from, to, long))
      ∙ ap Some (last-at digits (held name).figure position from to))
      ∙ digit-row (digit_of (held name).figure position) r (digit_of-small (held name).figure position)

  pub amount-row : (line : Line) (place : ℕ) (total : TotalLine) (field : Field) {v : ℕ}
      → slice_get at.chart.lines place ≡ Some line → line.statement ≡ says.TotalAmount total
      → field_named at.chart.lines total.name ≡ Some field → chart_number total.level ≡ level_number its
      → FigureSends total.wheel total.digits (decimals_of field.kind) total.mark (map Some (last_digits total.digits (held total.name).figure)) (held total.name).latch (row_number at.row) v
      → Sends (says.TotalAmount total) v
  amount-row line place total field listed says_it named same sends =
      let few = total-digits at.chart place line total field row.on_panel.panel.lawful listed says_it named in
      let sent = figure-sent total.wheel total.digits (decimals_of field.kind) total.mark (map Some (last_digits total.digits (held total.name).figure)) (held total.name).latch
      (row_number at.row) few (digits-long total.digits total.name) sends in
      record {
        shown = amount_shown total.wheel total.digits (decimals_of field.kind) total.mark (map Some (last_digits total.digits (held total.name).figure)) (held total.name).latch;
        is_sent = ap (λ b. cond b (option_map shown_of (field_named at.chart.lines total.name)) None) (tested total.level same) ∙ ap (option_map shown_of) named;
        there = sent.0;
        on = sent.1;
      }
    where
      shown_of : Field → Shown
      shown_of each = amount_shown total.wheel total.digits (decimals_of each.kind) total.mark (map Some (last_digits total.digits (held total.name).figure)) (held total.name).latch

  -- the level of a total whose group reads out, and of a text whose unit does
  group-level : (line : Line) (total : TotalLine) (group : Group) → Contains at.chart.lines line
      → line.statement ≡ says.TotalAmount total
      → ServesTotal at.chart.lines at.plan line.number group → at.pictures C (RO group) ≡ true → chart_number total.level ≡ level_number its
  group-level line asked group listed says_it served out =
      let (its_name, own) = total-read wiring at row.on_panel row.rises its row.cycle group out in
      let n = groups.serves-own at.chart.lines at.plan row.on_panel.panel.planned own.number line.number group own.served served in
      let total = own.total in
      let e = one-line total.line line total.listed listed (total.is_number ∙ n) in
      by total.asked (sym total.says_total ∙ ap (λ l. l.statement) e ∙ says_it) total.same_level
    where
      by : (other : TotalLine) → says.TotalAmount other ≡ says.TotalAmount asked → chart_number other.level ≡ level_number its
          → chart_number asked.level ≡ level_number its
      by other same is = let e : other ≡ asked = cc in sym (ap (λ (t : TotalLine). chart_number t.level) e) ∙ is

  unit-level : (line : Line) (level : Level) (wheel : ℕ) (name : List ℕ) (unit : ℕ)
      → Contains at.chart.lines line → line.statement ≡ says.TotalText level wheel name
      → unit_for at.plan line.number ≡ Some unit → at.pictures C (SO unit) ≡ true → chart_number level ≡ level_number its
  unit-level line level wheel name unit listed says_it served out =
      let u = text-read wiring at row.on_panel its row.cycle unit out in
      let n = parts.unit-own at.chart.lines at.plan row.on_panel.panel.planned u.line.number line.number unit u.served served in
      let e = one-line u.line line u.listed listed n in
      by u.level u.wheel u.name (sym u.is_text ∙ ap (λ l. l.statement) e ∙ says_it) (emits_third u.printed refl refl)
    where
      emits_third : {n : ℕ} {cycle : Cycle} {hub : Hub} → EmitsAtControl cycle hub → cycle ≡ Prog its Third → hub ≡ PX n 3 → n ≡ level_number its
      emits_third emits_card is there = cc
      emits_third (emits_prog level ordinal) is there =
          let a : level ≡ its = cc in cc
      emits_third (emits_head heading) is there = cc

      by : (other : Level) (w : ℕ) (n : List ℕ) → says.TotalText other w n ≡ says.TotalText level wheel name
          → chart_number other ≡ level_number its → chart_number level ≡ level_number its
      by other w n same is = let e : other ≡ level = cc in sym (ap chart_number e) ∙ is

  -- the digit of a group is that of the total
  pub held-digit : (number : ℕ) (counter : TotalCounter) (name : List ℕ) (position : ℕ) (group : Group) (place : ℕ)
      → counter_for at.chart.lines at.plan number ≡ Some counter → IsPlaceOf counter position group place → IsGroup group
      → CounterHoldsTotal at counter (held name) → place ≤ length (group_at at.old group).digits
      → digit_from_units (group_at at.old group).digits place ≡ digit_of (held name).figure position
  held-digit line counter name position group place there stands is holds to =
      digit-of at.old row.on_panel.between group place is stands.from to
      ∙ sym (counter_digit at.chart at.plan wiring at.old at.cycle at.pictures row.on_panel line counter there position group place stands) ∙ ap (λ n. digit_of n position) holds.figure

  -- a balance position leads on where the latch is set
  pub closed-BAT : (group : Group) (position : ℕ) → IsGroup group
      → is_closed at (BAT group position) ≡ (is_within position 4 && (group_at at.old group).latch)
  closed-BAT group position is = (units-by_name.groups at.old group row.on_panel.between is).transferred at.cycle (Row at.row) position

  pub digit-sends : (line : Line) (place : ℕ) (total : TotalLine) (field : Field) (counter : Counter)
      (position its_place : ℕ) → slice_get at.chart.lines place ≡ Some line → Contains at.chart.lines line → line.statement ≡ says.TotalAmount total
      → ServesPosition at.chart.lines at.plan line.number position counter.name its_place → IsAmount at.chart.lines total.name field
      → 1 ≤ position → position ≤ total.digits
      → Contains at.old.groups counter → at.pictures C (RO counter.name) ≡ true → its_place ≤ length counter.digits
      → digit_from_units counter.digits its_place ≡ row_number at.row
      → Sends (says.TotalAmount total) (digit_wheel total.wheel total.digits (decimals_of field.kind) position)
  digit-sends line place total field counter position its_place listed there says_it serves is from to among out long shows =
      let served = groups.position-serves at.chart.lines at.plan line.number position counter.name its_place serves in
      let same = group-level line total counter.name there says_it served out in
      let named = group-named at.chart.lines at.plan line.number counter.name row.on_panel.panel.planned served in
      let holds = row.totals line total serves.counter there says_it same serves.there in
      let own : counter ≡ group_at at.old counter.name = group-own at.old row.on_panel.between counter among in
      let digit_is : digit_from_units counter.digits its_place ≡ digit_of (held total.name).figure position
      = ap (λ c. digit_from_units c.digits its_place) own
      ∙ held-digit line.number serves.counter total.name position counter.name its_place serves.there serves.at named holds
      (subst (λ c. its_place ≤ length c.digits) own long) in
      let e : digit_of (held total.name).figure position ≡ row_number at.row = sym digit_is ∙ shows in
      let test : (digit_of (held total.name).figure position == row_number at.row) ≡ true = equal (digit_of (held total.name).figure position) (row_number at.row) e in
      amount-row line place total field listed says_it is.named same
      (figure_digit position from to (digit-shown total.digits total.name position (row_number at.row) from to ∙ test))
    where
      equal : (a b : ℕ) → a ≡ b → (a == b) ≡ true
      equal a b e = grind (arith, nat_tests, e)

  pub mark-sends : (line : Line) (place : ℕ) (total : TotalLine) (mark : Mark) (field : Field) (top : Group) (k : ℕ)
      → slice_get at.chart.lines place ≡ Some line → Contains at.chart.lines line
      → line.statement ≡ says.TotalAmount total → total.mark ≡ Some mark → top_for at.chart.lines at.plan line.number ≡ Some top
      → field_named at.chart.lines total.name ≡ Some field → chart_number total.level ≡ level_number its
      → HasPunchAt (mark_text mark) k (row_number at.row) → is_closed at (BAT top (3 + k)) ≡ true
      → Sends (says.TotalAmount total) (mark_wheel total.wheel total.digits (decimals_of field.kind) + k)
  mark-sends line place total mark field top k listed there says_it marked served named same punch shut =
      let group_is = group-named at.chart.lines at.plan line.number top row.on_panel.panel.planned
      (groups.top-serves at.chart.lines at.plan line.number top served) in
      let (counter, is_counter, is_top) = top-counter (counter_for at.chart.lines at.plan line.number) top served in
      let holds = row.totals line total counter there says_it same is_counter in
      let latch = right-of (is_within (3 + k) 4) (group_at at.old top).latch (sym (closed-BAT top (3 + k) group_is) ∙ shut) in
      amount-row line place total field listed says_it named same
      (figure_marked mark k marked (sym holds.latch ∙ ap (λ g. (group_at at.old g).latch) is_top ∙ latch) punch)

  pub text-sends : (line : Line) (level : Level) (wheel : ℕ) (name : List ℕ) (field : Field) (storage : StorageState) (j : ℕ)
      → Contains at.chart.lines line → line.statement ≡ says.TotalText level wheel name → IsText at.chart.lines name field → j < columns_of field
      → unit_for at.plan line.number ≡ Some storage.place → Contains at.old.storage storage
      → at.pictures C (SO storage.place) ≡ true → holds_row storage at.row (j + 1) ≡ true
      → Sends (says.TotalText level wheel name) (wheel + j)
  text-sends line level wheel name field storage j there says_it is within served among out held_row =
      let same = unit-level line level wheel name storage.place there says_it served out in
      let column = row.texts line level wheel name field storage.place j there says_it same served is.named within in
      let own = unit-own at.old row.on_panel.between storage among in
      let punched : has_row (column_of card (field.first + j)) (row_number at.row) ≡ true
      = sym (ap (λ s. holds_row s at.row (j + 1)) own ∙ column) ∙ held_row in
      record {
        shown = Characters wheel (map (column_of card) (columns_in field));
        is_sent = ap (λ b. cond b (option_map shown_of (field_named at.chart.lines name)) None) (tested level same) ∙ ap (option_map shown_of) is.named;
        there = columns-stand wheel card field j within;
        on = ap (λ s. has_row s (row_number at.row)) (columns-sent wheel card field j within) ∙ punched;
      }
    where
      shown_of : Field → Shown
      shown_of each = Characters wheel (map (column_of card) (columns_in each))
