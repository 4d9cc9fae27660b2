-- On a panel that is wired for a chart by a plan, what tells the pilot of an amount names that of the plan; and something does, since an
-- amount with a sign bears its mark wherever it is printed.
use Rattle.std.proofs.Common.{◌≡◌, ◌∙◌, refl, sym, ap, subst, ℕ, ◌+◌, ◌≤◌, inl, true, false, List, Contains, Option, Some, None, IfNone, is_some, filter, filter_map, arith}
use Rattle.std.proofs.lemmas.Bool.{and_parts}
use Rattle.std.proofs.lemmas.Option.{same_Some}
use Rattle.card_code.specs.CardCode.{code, rows_of}
use Rattle.chart_rules.specs.Rules.{IsLawful, breaks}
use Rattle.chart_rules.specs.declared.rule.Rule.TheVariants as rule_of_chart
use Rattle.chart_rules.proofs.Laws.{field-line, kept-line, statement-field}
use Rattle.chart_lines.specs.ChartsWords.Chart.{Chart, NumbersRise}
use Rattle.chart_lines.specs.ChartsWords.Field.{column_of_rule, columns_of, decimals_of, sign_column}
use Rattle.chart_lines.specs.ChartsWords.Levels.{level_number}
use Rattle.chart_lines.specs.ChartsWords.Name.{is_same_name}
use Rattle.chart_lines.specs.declared.charts.chart.Line.{Line}
use Rattle.chart_lines.specs.declared.charts.statement.DetailOption.{DetailOption}
use Rattle.chart_lines.specs.declared.charts.statement.DetailOption.TheVariants as shown
use Rattle.chart_lines.specs.declared.charts.statement.Field.{Field}
use Rattle.chart_lines.specs.declared.charts.statement.FieldKind.{FieldKind}
use Rattle.chart_lines.specs.declared.charts.statement.FieldKind.TheVariants as holds
use Rattle.chart_lines.specs.declared.charts.statement.Mark.{Mark}
use Rattle.chart_lines.specs.declared.charts.statement.Mark.TheVariants as mark_kind
use Rattle.chart_lines.specs.declared.charts.statement.SignRule.{SignRule}
use Rattle.chart_lines.specs.declared.charts.statement.Statement.{Statement}
use Rattle.chart_lines.specs.declared.charts.statement.TotalLine.{TotalLine}
use Rattle.chart_lines.specs.declared.charts.statement.Statement.TheVariants as says
use Rattle.chart_lines.proofs.ChartsWords.Listed.{any-passing, given-by}
use Rattle.chart_lines.proofs.ChartsWords.Rising.{one-line as line-by-number}
use Rattle.chart_line_rules.specs.FieldRules.Fields.{field_named, field_of, fields_of}
use Rattle.chart_line_rules.proofs.FieldRules.Places.{is_same_name-equal, is_same_name-own}
use Rattle.hubs.specs.declared.hub.Group.{Group}
use Rattle.hubs.specs.declared.hub.Hub.{Hub}
use Rattle.hubs.specs.declared.hub.Hub.TheVariants.{FR, MI, PIX, W}
use Rattle.match_plans.specs.NamingWires.{ShowsPartsOf}
use Rattle.match_plans.specs.PilotWires.{IsSignedOf, IsTold, LeadsToTotal, TellsPilot, lowest, marked}
use Rattle.match_plans.specs.Renumbered.{ShowsNoParts}
use Rattle.match_plans.specs.Shown.{units_group}
use Rattle.match_plans.specs.Wired.{IsWiredBy}
use Rattle.match_plans.specs.declared.pilots.SignedAmount.{SignedAmount}
use Rattle.match_plans.proofs.Asked.{asks}
use Rattle.match_plans.proofs.Apart.{HasOwnPlaces, all-numbers}
use Rattle.match_plans.proofs.Lowest.{total-told}
use Rattle.match_plans.proofs.OwnNames.{names-apart}
use Rattle.match_plans.proofs.WheelParts.{detail-on, same-detail}
use Rattle.match_plans.proofs.Zipped.{filter-listed, map-listed}
use Rattle.chart_plans.specs.declared.plans.part_numbers.PartKind.TheVariants as kind
use Rattle.chart_plans.specs.declared.plans.counter.TotalCounter.{TotalCounter}
use Rattle.chart_plans.specs.declared.plans.counter.TotalCounter.TheVariants as of
use Rattle.chart_plans.specs.PlansWords.Plans.{Lists}
use Rattle.chart_plans.proofs.PlansWords.Numbers.{HasNumber, number-given}
use Rattle.chart_line_rules.specs.PrintRules.Items.{detail_item, mark_shown, mark_width}
use Rattle.chart_line_rules.specs.PrintRules.Marks.{is_mismatched, is_mismatched_kind}
use Rattle.chart_line_rules.specs.PrintRules.Wheels.{HasWheel}
use Rattle.proof_reports.proofs.PrintedLines.Meeting.{one-line}
use Rattle.hubs.specs.SetupsWords.Wiring.{HasWire, Wiring}
use Rattle.chart_plans.specs.WantedWords.Pilots.{pilots_of, prints_name, shows, wants_pilot}
use Rattle.chart_plans.specs.WantedWords.Wanted.{Parts}
use Rattle.wiring_table.specs.Figures.{HasPunchAt, IsSigned, mark_text, mark_wheel, rule_of}
use Rattle.wiring_table.specs.Parts.{HasPanelGroup, IsLowest, ServesTotal, counter_for, negative_side, panel_group, pilot_for}
use Rattle.wiring_table.specs.Wires.{ChartWire, LineWire}
use Rattle.wiring_table.specs.Wires.LineWire.{detail_mark_out, entry_minus, pickup}
use Rattle.wiring_table.proofs.ChartLines.{field-own}
use Rattle.wiring_table.proofs.Groups.{counter-given, serves-own}
use Rattle.wiring_table.proofs.Totals.{total-of}
use Rattle.match_plans.proofs.Clashes.{apart, is_side, same-side, side-is, to_minus, to_wheel}

-- the rule of an amount with a sign column, and its column
ruled-by : (kind : FieldKind) → is_some (sign_column kind) ≡ true → (rule : SignRule) × (rule_of kind ≡ Some rule)
ruled-by holds.Text some = cc
ruled-by (holds.Amount decimals None) some = cc
ruled-by (holds.Amount decimals (Some rule)) some = (rule, refl)

-- the amount of a name has that name
pub same-name : (lines : List Line) (name : List ℕ) (field : Field) → field_named lines name ≡ Some field → field.name ≡ name
same-name lines name field named = (field-line lines name field named).own_name

pub signed-of : (lines : List Line) (name : List ℕ) (amount : SignedAmount) → field_named lines name ≡ Some amount.field
    → rule_of amount.field.kind ≡ Some amount.rule → IsSignedOf lines amount
signed-of lines name amount named ruled =
    record { named = ap (field_named lines) (same-name lines name amount.field named) ∙ named; ruled = ruled }

-- the group of the units is one of a counter
units-of : (counter : TotalCounter) → HasPanelGroup counter (panel_group (units_group counter))
units-of (of.Single group) = refl
units-of (of.Coupled lower upper) = inl refl

-- a mark takes a wheel at least
some-wheels : (mark : Mark) → 1 ≤ mark_width (Some mark)
some-wheels mark_kind.Credit = omega arith
some-wheels mark_kind.Minus = omega arith

-- the first wheel of a mark is one of its amount
mark-there : (wheel : ℕ) (mark : Mark) (columns : ℕ) (kind : FieldKind) (rule : SignRule) → rule_of kind ≡ Some rule
    → HasWheel (detail_item wheel (shown.Marked mark) columns kind) (mark_wheel wheel columns (decimals_of kind))
mark-there wheel mark columns holds.Text rule ruled = cc
mark-there wheel mark columns (holds.Amount decimals its) rule ruled = let some = some-wheels mark in (omega arith, omega (arith, some))

-- a row of its first character
abbrev mark_row : Mark → ℕ
mark_row mark_kind.Credit = 12
mark_row mark_kind.Minus = 11

mark-punched : (mark : Mark) → HasPunchAt (mark_text mark) 0 (mark_row mark)
unfolding rows_of code
mark-punched mark_kind.Credit = record { character = 67; there = refl; punch = record { set = _; coded = refl; punched = refl } }
mark-punched mark_kind.Minus = record { character = 45; there = refl; punch = record { set = _; coded = refl; punched = refl } }

module _ (lines : List Line) (plan : Lists) where
  -- a total that a pilot has a group subtract from
  record MinusOf (number : ℕ) (statement : Statement) (pilot : ℕ) (group : Group) : Type 0 where
    asked : TotalLine
    says_total : statement ≡ says.TotalAmount asked
    served : ServesTotal lines plan number group
    its_pilot : pilot_for plan asked.name ≡ Some pilot

  minus-by : {number : ℕ} (total : TotalLine) (its pilot : ℕ) (its_group group : Group)
      → ServesTotal lines plan number its_group → pilot_for plan total.name ≡ Some its → its ≡ pilot → its_group ≡ group
      → MinusOf number (says.TotalAmount total) pilot group
  minus-by {number} total its pilot its_group group served its_pilot same_pilot same_group = record {
    asked = total;
    says_total = refl;
    served = subst (ServesTotal lines plan number) same_group served;
    its_pilot = its_pilot ∙ ap Some same_pilot;
  }

  minus-of : {number : ℕ} {statement : Statement} {exit entry : Hub} (rule : SignRule) (pilot : ℕ) (group : Group)
      → LineWire lines plan number statement exit entry → exit ≡ negative_side rule pilot 1 → entry ≡ MI group
      → MinusOf number statement pilot group
  minus-of rule pilot group (entry_minus total own its its_group low served signed its_pilot) e f =
      let same_pilot : its ≡ pilot = (same-side own rule its pilot 1 1 e).0 in
      let same_group : its_group ≡ group = cc in
      minus-by total its pilot its_group group served its_pilot same_pilot same_group
  minus-of rule pilot group other e f = apart (to_minus is_side) e f (side-is rule pilot 1) refl

  -- an amount whose mark a pilot puts on a wheel
  record MarkOf (statement : Statement) (pilot v : ℕ) : Type 0 where
    wheel : ℕ
    name : List ℕ
    mark : Mark
    rule : SignRule
    field : Field
    says_detail : statement ≡ says.DetailField wheel name (shown.Marked mark)
    signed : IsSigned lines name rule
    named : field_named lines name ≡ Some field
    its_pilot : pilot_for plan name ≡ Some pilot
    at : mark_wheel wheel (columns_of field) (decimals_of field.kind) ≡ v

  mark-by : (wheel : ℕ) (name : List ℕ) (mark : Mark) (rule : SignRule) (field : Field) (its pilot k v : ℕ) → IsSigned lines name rule
      → field_named lines name ≡ Some field → pilot_for plan name ≡ Some its → its ≡ pilot → 2 + k ≡ 2
      → mark_wheel wheel (columns_of field) (decimals_of field.kind) + k ≡ v
      → MarkOf (says.DetailField wheel name (shown.Marked mark)) pilot v
  mark-by wheel name mark rule field its pilot k v signed named its_pilot same first at = record {
    wheel = wheel;
    name = name;
    mark = mark;
    rule = rule;
    field = field;
    says_detail = refl;
    signed = signed;
    named = named;
    its_pilot = its_pilot ∙ ap Some same;
    at = omega (arith, first, at);
  }

  mark-of : {number : ℕ} {statement : Statement} {exit entry : Hub} (rule : SignRule) (pilot v : ℕ)
      → LineWire lines plan number statement exit entry → exit ≡ negative_side rule pilot 2 → entry ≡ W v → MarkOf statement pilot v
  mark-of rule pilot v (detail_mark_out wheel name mark own field its k row signed named its_pilot punch) e f =
      let (same_pilot, first) = same-side own rule its pilot (2 + k) 2 e in
      let at : mark_wheel wheel (columns_of field) (decimals_of field.kind) + k ≡ v = cc in
      mark-by wheel name mark own field its pilot k v signed named its_pilot same_pilot first at
  mark-of rule pilot v other e f = apart (to_wheel is_side) e f (side-is rule pilot 2) refl

module _ (chart : Chart) (setup : Wiring) (lawful : IsLawful chart) (rise : NumbersRise chart.lines chart.end) (its : Lists)
    (wired : IsWiredBy chart.lines setup its) where
  -- the pilot that subtracts from the counter of a total is that of its amount
  pub total-tells : (line : Line) (total : TotalLine) (rule : SignRule) (pilot : ℕ) → Contains chart.lines line
      → line.statement ≡ says.TotalAmount total → LeadsToTotal chart.lines its setup rule pilot line.number → pilot_for its total.name ≡ Some pilot
  total-tells line total rule pilot listed said leads =
      let group = panel_group (units_group leads.counter) in
      let wire : ChartWire chart.lines its (negative_side rule pilot 1) (MI group) =
      (wired.wired.wires (negative_side rule pilot 1) (MI group)).0 leads.leads in
      let m = minus-of chart.lines its rule pilot group wire.wire refl refl in
      let numbers = serves-own chart.lines its wired.planned wire.line.number line.number group m.served
      (record { counter = leads.counter; there = leads.served; has = units-of leads.counter }) in
      let lines = line-by-number chart.lines chart.end wire.line line rise wire.listed listed numbers in
      let says_same : says.TotalAmount m.asked ≡ says.TotalAmount total =
      sym m.says_total ∙ ap (λ (l : Line). l.statement) lines ∙ said in
      let names : m.asked.name ≡ total.name = cc in
      ap (pilot_for its) (sym names) ∙ m.its_pilot

  -- and so is the one that leads to the wheel of its mark
  pub mark-tells : (line : Line) (wheel : ℕ) (name : List ℕ) (mark : Mark) (field : Field) (own_rule rule : SignRule) (pilot : ℕ)
      → Contains chart.lines line → line.statement ≡ says.DetailField wheel name (shown.Marked mark) → field_named chart.lines name ≡ Some field
      → rule_of field.kind ≡ Some own_rule
      → HasWire setup (negative_side rule pilot 2) (W (mark_wheel wheel (columns_of field) (decimals_of field.kind)))
      → pilot_for its name ≡ Some pilot
  mark-tells line wheel name mark field own_rule rule pilot listed said named ruled leads =
      let v = mark_wheel wheel (columns_of field) (decimals_of field.kind) in
      let wire : ChartWire chart.lines its (negative_side rule pilot 2) (W v) = (wired.wired.wires (negative_side rule pilot 2) (W v)).0 leads in
      let m = mark-of chart.lines its rule pilot v wire.wire refl refl in
      let fields : m.signed.field ≡ m.field = same_Some m.signed.field m.field (sym m.signed.named ∙ m.named) in
      let m_ruled : rule_of m.field.kind ≡ Some m.rule = ap (λ (f : Field). rule_of f.kind) (sym fields) ∙ m.signed.ruled in
      let lines = one-line chart lawful line wire.line _ _ v listed wire.listed
      (detail-on chart.lines line.statement wheel name (shown.Marked mark) field said named)
      (detail-on chart.lines wire.line.statement m.wheel m.name (shown.Marked m.mark) m.field m.says_detail m.named)
      (same-detail wheel (shown.Marked mark) (columns_of field) field.kind m.wheel (shown.Marked m.mark) (columns_of m.field) m.field.kind)
      (same-detail m.wheel (shown.Marked m.mark) (columns_of m.field) m.field.kind wheel (shown.Marked mark) (columns_of field) field.kind)
      (mark-there wheel mark (columns_of field) field.kind own_rule ruled)
      (subst (HasWheel (detail_item m.wheel (shown.Marked m.mark) (columns_of m.field) m.field.kind)) m.at
      (mark-there m.wheel m.mark (columns_of m.field) m.field.kind m.rule m_ruled)) in
      let says_same : says.DetailField wheel name (shown.Marked mark) ≡ says.DetailField m.wheel m.name (shown.Marked m.mark) =
      sym said ∙ ap (λ (l : Line). l.statement) lines ∙ m.says_detail in
      let names : name ≡ m.name = cc in
      ap (pilot_for its) names ∙ m.its_pilot

  -- the lowest total tells the pilot
  pub lowest-told : (line : Line) (total : TotalLine) (rule : SignRule) (pilot : ℕ) (counter : TotalCounter)
      → Contains chart.lines line → line.statement ≡ says.TotalAmount total
      → IsLowest chart.lines total.name (level_number total.level) → IsSigned chart.lines total.name rule → pilot_for its total.name ≡ Some pilot
      → counter_for chart.lines its line.number ≡ Some counter → LeadsToTotal chart.lines its setup rule pilot line.number
  lowest-told line total rule pilot counter listed said low signed its_pilot served = record {
    counter = counter;
    served = served;
    leads = asks wired.wired line listed said
        (entry_minus total rule pilot (panel_group (units_group counter)) low
        (record { counter = counter; there = served; has = units-of counter }) signed its_pilot);
  }

  -- and so does the mark
  pub mark-told : (line : Line) (wheel : ℕ) (name : List ℕ) (mark : Mark) (field : Field) (rule : SignRule) (pilot : ℕ)
      → Contains chart.lines line → line.statement ≡ says.DetailField wheel name (shown.Marked mark) → field_named chart.lines name ≡ Some field
      → rule_of field.kind ≡ Some rule → pilot_for its name ≡ Some pilot
      → HasWire setup (negative_side rule pilot 2) (W (mark_wheel wheel (columns_of field) (decimals_of field.kind)))
  mark-told line wheel name mark field rule pilot listed said named ruled its_pilot =
      let first : mark_wheel wheel (columns_of field) (decimals_of field.kind) + 0 ≡ mark_wheel wheel (columns_of field) (decimals_of field.kind)
      = omega arith in
      subst (λ w. HasWire setup (negative_side rule pilot 2) (W w)) first
      (asks wired.wired line listed said
      (detail_mark_out wheel name mark rule field pilot 0 (mark_row mark) (record { field = field; named = named; ruled = ruled }) named
      its_pilot (mark-punched mark)))

  -- the sign column leads to the pilot
  pub picked-up : (name : List ℕ) (field : Field) (rule : SignRule) (pilot : ℕ) → field_named chart.lines name ≡ Some field
      → rule_of field.kind ≡ Some rule → pilot_for its name ≡ Some pilot → HasWire setup (FR (column_of_rule rule)) (PIX pilot)
  picked-up name field rule pilot named ruled served =
      let f = field-line chart.lines name field named in
      asks wired.wired f.line f.listed f.is_field (pickup field rule pilot ruled (ap (pilot_for its) f.own_name ∙ served))

  -- for an amount by its own name, whatever name a line has
  module _ (amount : SignedAmount) (is : IsSignedOf chart.lines amount) (name : List ℕ) (names : is_same_name name amount.field.name ≡ true) where
    equal-names : name ≡ amount.field.name
    equal-names = is_same_name-equal name amount.field.name names

    its-field : field_named chart.lines name ≡ Some amount.field
    its-field = ap (field_named chart.lines) equal-names ∙ is.named

    pub mark-yes : (line : Line) (wheel : ℕ) (mark : Mark) (pilot v : ℕ) → Contains chart.lines line
        → line.statement ≡ says.DetailField wheel name (shown.Marked mark)
        → v ≡ mark_wheel wheel (columns_of amount.field) (decimals_of amount.field.kind) → HasWire setup (negative_side amount.rule pilot 2) (W v)
        → pilot_for its amount.field.name ≡ Some pilot
    mark-yes line wheel mark pilot v listed said at leads =
        ap (pilot_for its) (sym equal-names)
        ∙ mark-tells line wheel name mark amount.field amount.rule amount.rule pilot listed said its-field is.ruled
        (subst (λ w. HasWire setup (negative_side amount.rule pilot 2) (W w)) at leads)

    pub mark-no : (line : Line) (wheel : ℕ) (mark : Mark) (pilot v : ℕ) → Contains chart.lines line
        → line.statement ≡ says.DetailField wheel name (shown.Marked mark)
        → v ≡ mark_wheel wheel (columns_of amount.field) (decimals_of amount.field.kind) → pilot_for its amount.field.name ≡ Some pilot
        → HasWire setup (negative_side amount.rule pilot 2) (W v)
    mark-no line wheel mark pilot v listed said at served =
        subst (λ w. HasWire setup (negative_side amount.rule pilot 2) (W w)) (sym at)
        (mark-told line wheel name mark amount.field amount.rule pilot listed said its-field is.ruled (ap (pilot_for its) equal-names ∙ served))

  module _ (amount : SignedAmount) (is : IsSignedOf chart.lines amount) where
    pub total-yes : (line : Line) (total : TotalLine) (pilot : ℕ) → is_same_name total.name amount.field.name ≡ true
        → Contains chart.lines line → line.statement ≡ says.TotalAmount total
        → LeadsToTotal chart.lines its setup amount.rule pilot line.number → pilot_for its amount.field.name ≡ Some pilot
    total-yes line total pilot names listed said leads =
        ap (pilot_for its) (sym (is_same_name-equal total.name amount.field.name names))
        ∙ total-tells line total amount.rule pilot listed said leads

    pub total-no : (line : Line) (total : TotalLine) (pilot : ℕ) → Contains chart.lines line
        → line.statement ≡ says.TotalAmount total → pilot_for its amount.field.name ≡ Some pilot
        → TellsPilot chart.lines amount.field.name line → LeadsToTotal chart.lines its setup amount.rule pilot line.number
    total-no line total pilot listed said served (lowest asked says_it same low) =
        let has = total-of chart.lines line asked listed says_it in
        let counter = counter-given chart.lines its asked.name (level_number asked.level) line.number wired.planned has in
        let own_names = is_same_name-equal asked.name amount.field.name same in
        lowest-told line asked amount.rule pilot counter.0 listed says_it
        (subst (λ n. IsLowest chart.lines n (level_number asked.level)) (sym own_names) low)
        (record { field = amount.field; named = ap (field_named chart.lines) own_names ∙ is.named; ruled = is.ruled })
        (ap (pilot_for its) own_names ∙ served) counter.1
    total-no line total pilot listed said served (marked its_wheel its_name its_mark says_it same) =
        let wrong = sym said ∙ says_it in
        cc

-- what a wire to the counter of a total says
pub by-counter : {Is : Type 0} (lines : List Line) (its : Lists) (setup : Wiring) (rule : SignRule) (pilot number : ℕ) (counter : TotalCounter)
    (exit : Hub) (group : Group) → counter_for lines its number ≡ Some counter → exit ≡ negative_side rule pilot 1
    → group ≡ panel_group (units_group counter) → (Is → HasWire setup exit (MI group)) × (HasWire setup exit (MI group) → Is)
    → (Is → LeadsToTotal lines its setup rule pilot number) × (LeadsToTotal lines its setup rule pilot number → Is)
by-counter lines its setup rule pilot number counter exit group served same_exit same_group (there, conversely) = (
  λ is. record {
    counter = counter;
    served = served;
    leads = subst (λ g. HasWire setup (negative_side rule pilot 1) (MI g)) same_group
        (subst (λ e. HasWire setup e (MI group)) same_exit (there is));
  },
  λ leads.
      let counters = same_Some leads.counter counter (sym leads.served ∙ served) in
      conversely (subst (λ e. HasWire setup e (MI group)) (sym same_exit)
      (subst (λ g. HasWire setup (negative_side rule pilot 1) (MI g)) (sym same_group)
      (subst (λ c. HasWire setup (negative_side rule pilot 1) (MI (panel_group (units_group c)))) counters leads.leads))),
)

module _ (chart : Chart) (lawful : IsLawful chart) where
  -- an amount that wants a pilot has a sign rule, and stands on a line
  pub record Wanting (name : List ℕ) : Type 0 where
    pub field : Field
    pub rule : SignRule
    pub named : field_named chart.lines name ≡ Some field
    pub ruled : rule_of field.kind ≡ Some rule
    pub line : Line
    pub listed : Contains chart.lines line
    pub shown_on : shows name line.statement ≡ true

  pub wanting : (name : List ℕ) → Contains (pilots_of chart.lines) name → Wanting name
  unfolding wants_pilot
  wanting name there =
      let (field, passing, is_name) = map-listed (λ (field : Field). field.name) (filter (wants_pilot chart.lines) (fields_of chart.lines)) name there in
      let (among, wants) = filter-listed (wants_pilot chart.lines) (fields_of chart.lines) field passing in
      let (has_column, printed) = and_parts (is_some (sign_column field.kind)) (prints_name chart.lines field.name) wants in
      let from = given-by (λ (line : Line). field_of line.statement) chart.lines field among in
      let own_field = field-own chart lawful from.element field from.listed (statement-field from.element.statement field from.gives) in
      let ruled = ruled-by field.kind has_column in
      let some = any-passing (λ (line : Line). shows field.name line.statement) chart.lines printed in
      record {
        field = field;
        rule = ruled.0;
        named = ap (field_named chart.lines) (sym is_name) ∙ own_field;
        ruled = ruled.1;
        line = some.element;
        listed = some.listed;
        shown_on = ap (λ n. shows n some.element.statement) (sym is_name) ∙ some.passes;
      }

  -- an amount with a sign rule bears its mark on the line of a card
  marked-with : (kind : FieldKind) (rule : SignRule) (how : DetailOption) → rule_of kind ≡ Some rule
      → is_mismatched_kind kind (mark_shown how) ≡ false → (mark : Mark) × (how ≡ shown.Marked mark)
  marked-with holds.Text rule how ruled kept = cc
  marked-with (holds.Amount decimals None) rule how ruled kept = cc
  marked-with (holds.Amount decimals (Some own)) rule (shown.Marked mark) ruled kept = (mark, refl)
  marked-with (holds.Amount decimals (Some own)) rule shown.Plain ruled kept = cc
  marked-with (holds.Amount decimals (Some own)) rule (shown.Indicated level) ruled kept = cc

  -- so a line tells its pilot
  pub told-of : (name : List ℕ) → Contains (pilots_of chart.lines) name → IsTold chart.lines name
  told-of name there = let w = wanting name there in by w w.line.statement refl w.shown_on
    where
      by : (w : Wanting name) (statement : Statement) → w.line.statement ≡ statement → shows name statement ≡ true → IsTold chart.lines name
      by w (says.DetailField wheel its how) said same =
          let (earlier, kept) = kept-line chart lawful w.line w.listed rule_of_chart.MarkMismatch in
          let names = is_same_name-equal its name same in
          let here : is_mismatched (field_named chart.lines its) (mark_shown how) ≡ false =
          sym (ap (breaks rule_of_chart.MarkMismatch chart.lines earlier) said) ∙ kept in
          let field_here : is_mismatched_kind w.field.kind (mark_shown how) ≡ false =
          sym (ap (λ o. is_mismatched o (mark_shown how)) (ap (field_named chart.lines) names ∙ w.named)) ∙ here in
          let (mark, is) = marked-with w.field.kind w.rule how w.ruled field_here in
          record {
            line = w.line;
            listed = w.listed;
            tells = marked wheel its mark (said ∙ ap (says.DetailField wheel its) is) same;
          }
      by w (says.TotalAmount total) said same =
          total-told chart.lines name (level_number total.level) w.line.number (record {
            line = w.line;
            listed = w.listed;
            is_number = refl;
            asked = total;
            says_total = said;
            same_level = refl;
            same_name = same;
          })
      by w other said same = cc

  module _ (setup : Wiring) (its : Lists) (wired : IsWiredBy chart.lines setup its) where
    served-names : its.parts.pilots ≡ pilots_of chart.lines
    served-names = ap (λ (p : Parts). p.pilots) wired.planned.parts

    -- an amount that wants a pilot has one
    pub pilot-there : (name : List ℕ) → Contains (pilots_of chart.lines) name → HasNumber (pilot_for its name) 16
    pilot-there name there =
        number-given (λ served. is_same_name served name) its.parts.pilots its.numbers.pilots 16 name (wired.planned.numbers kind.Pilot)
        (subst (λ list. Contains list name) (sym served-names) there) (is_same_name-own name)

    -- all pilots of the plan
    pub all-pilots : filter_map (pilot_for its) (pilots_of chart.lines) ≡ its.numbers.pilots
    all-pilots =
        ap (filter_map (pilot_for its)) (sym served-names)
        ∙ all-numbers (λ one other. is_same_name other one) is_same_name-own (λ one other same. is_same_name-equal other one same)
        its.parts.pilots its.numbers.pilots (wired.planned.numbers kind.Pilot).many
        (subst HasOwnPlaces (sym served-names) (names-apart chart lawful))

  -- a panel on which no pilot is that of an amount shows the parts of none that is wired for the chart
  pub none-for : (setup : Wiring) (name : List ℕ) (field : Field) → Contains (pilots_of chart.lines) name → field_named chart.lines name ≡ Some field
      → (result : Option ℕ)
      → IfNone result ((other : Wiring) (its : Lists) (pilot : ℕ) → ShowsPartsOf chart.lines setup other its → 1 ≤ pilot → pilot ≤ 16 → IsTold chart.lines field.name
      → ¬ (pilot_for its field.name ≡ Some pilot))
      → IfNone result (ShowsNoParts chart.lines setup)
  none-for setup name field there named (Some pilot) none = tt
  none-for setup name field there named None none = λ other its shows.
      let own_name = same-name chart.lines name field named in
      let given = pilot-there other its shows.wired name there in
      none other its given.n shows given.from given.to (subst (IsTold chart.lines) (sym own_name) (told-of name there))
      (ap (pilot_for its) own_name ∙ given.is)
