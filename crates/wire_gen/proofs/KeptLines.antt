-- What is known of each line of a lawful chart and its plan.
use Rattle.std.proofs.Common.{◌≡◌, ℕ, zero, suc, ◌+◌, ◌<◌, ◌≤◌, ◌⊎◌, inl, inr, Bool, true, false, not, ◌&&◌, ◌==◌, cond, nat_lt, nat_le, option_map, List, [], ◌∷◌, length, Some, slice_get, refl, sym, ap, ◌∙◌, subst, arith}
use Rattle.chart_plans.specs.PlansWords.Plans.{Lists, ServesChart}
use Rattle.chart_rules.specs.Below.chart_line_rules.FieldRules.Fields.{field_named}
use Rattle.chart_rules.specs.Below.chart_line_rules.PrintRules.Items.{mark_shown}
use Rattle.chart_lines.specs.ChartsWords.Field.{columns_of, decimals_of, is_amount, sign_column}
use Rattle.chart_lines.specs.ChartsWords.Levels.{level_number}
use Rattle.chart_lines.specs.declared.charts.chart.Line.{Line}
use Rattle.chart_lines.specs.declared.charts.level.ControlLevel.{ControlLevel}
use Rattle.chart_lines.specs.declared.charts.level.Level.{Level}
use Rattle.chart_lines.specs.declared.charts.statement.After.{After}
use Rattle.chart_lines.specs.declared.charts.statement.After.TheVariants as action
use Rattle.chart_lines.specs.declared.charts.statement.BodyLine.{BodyLine}
use Rattle.chart_lines.specs.declared.charts.statement.DetailOption.{DetailOption}
use Rattle.chart_lines.specs.declared.charts.statement.Field.{Field}
use Rattle.chart_lines.specs.declared.charts.statement.FieldKind.{FieldKind}
use Rattle.chart_lines.specs.declared.charts.statement.FieldKind.TheVariants as holds
use Rattle.chart_lines.specs.declared.charts.statement.Statement.{Statement}
use Rattle.chart_lines.specs.declared.charts.statement.TotalLine.{TotalLine}
use Rattle.chart_lines.specs.declared.charts.statement.Statement.TheVariants as says
use Rattle.wiring_lines.specs.Below.wiring_table.Figures.{mark_wheel}
use Rattle.wiring_lines.specs.LineWires.HelperItems.{IsGoodDetail}
use Rattle.wiring_totals.specs.HelperTotals.{IsGoodTotal}
use Rattle.wire_gen.specs.HelperKnown.{IsGood, IsGoodTotalText, IsNamed}
use Rattle.wiring_totals.specs.HelperLevels.{HasCounterFor}
use Rattle.wiring_lines.specs.Below.wiring_table.Parts.{IsNextHigher}
use Rattle.std.specs.Prelude.{map}
use Rattle.std.specs.List.{Contains, filter}
use Rattle.std.proofs.lemmas.Bool.{cases_lt, not-false}
use Rattle.std.proofs.lemmas.Bool.Decides.{nat_tests}
use Rattle.chart_plans.specs.WantedWords.Units.{is_of_kind, is_wide, is_wide_text, wide_texts_of}
use Rattle.chart_rules.specs.Below.chart_line_rules.FieldRules.Fields.{fields_of}
use Rattle.chart_rules.specs.HelperOnCard.{IsOnCard}
use Rattle.chart_rules.specs.Below.chart_line_rules.PrintRules.Items.{item_of, mark_width, detail_item, text_item, total_item}
use Rattle.chart_rules.specs.Below.chart_line_rules.declared.print_rules.items.Item.{Item}
use Rattle.chart_rules.specs.Below.chart_line_rules.declared.print_rules.items.PrintedLine.TheVariants.{Body, Heading}
use Rattle.chart_lines.specs.declared.charts.statement.BodyLine.TheVariants as body
use Rattle.chart_rules.specs.Below.chart_line_rules.FieldRules.Names.{names_amount, names_text, is_unknown}
use Rattle.chart_rules.specs.Rules.{breaks, IsLawful}
use Rattle.chart_rules.specs.Below.chart_line_rules.PrintRules.Tapes.{has_tape, is_tape_of, form_lines, rise_above, are_within}
use Rattle.chart_rules.specs.Below.chart_line_rules.PrintRules.Wheels.{is_off_wheels}
use Rattle.chart_rules.specs.declared.rule.Rule.{Rule}
use Rattle.chart_rules.specs.declared.rule.Rule.TheVariants as rule
use Rattle.chart_lines.specs.ChartsWords.Chart.{Chart, NumbersRise}
use Rattle.chart_lines.proofs.ChartsWords.Listed.{listed-cases, listed-none, listed-at, listed-given, any-passing}
use Rattle.wiring_lines.specs.LineWires.HelperItems.{HasWheels, DetailRanges}
use Rattle.wiring_lines.specs.LineWires.HelperRanges.{HasChannel}
use Rattle.wiring_lines.specs.Below.wiring_table.Parts.{HasTotal}
use Rattle.chart_rules.proofs.Laws.{kept-line, good-listed, good-field}
use Rattle.chart_rules.specs.Below.chart_line_rules.FieldRules.Fields.{field_of}
use Rattle.wiring_lines.proofs.Below.wiring_table.Totals.{digits-grow, one-total, total-digits, total-of}
use Rattle.wire_gen.proofs.KeptFields.{known-name, named-by, good-sign, wheels-within}
use Rattle.wire_gen.proofs.KeptTotals.{counter-for}

-- where none of some lines is wide, a line that is listed isn't
narrow-line : (test : Line → Bool) (lines : List Line) (line : Line) → length (map (λ l. l.number) (filter test lines)) ≡ 0
    → Contains lines line → test line ≡ false
narrow-line test [] line none there = absurd (listed-none line there)
narrow-line test (other ∷ lines) line none there =
    by (narrow-line test lines line) (test other) refl none (listed-cases line other lines there)
  where
    by : (length (map (λ l. l.number) (filter test lines)) ≡ 0 → Contains lines line → test line ≡ false) → (b : Bool)
        → test other ≡ b → length (map (λ l. l.number) (cond b (other ∷ filter test lines) (filter test lines))) ≡ 0
        → (other ≡ line) ⊎ Contains lines line → test line ≡ false
    by later true passes is either = cc
    by later false fails is (inl same) = ap test (sym same) ∙ fails
    by later false fails is (inr after) = later is after

-- the text on a total line is no wider than a storage unit, where no total text is too wide
narrow-field : (lines : List Line) (line : Line) (level : Level) (wheel : ℕ) (name : List ℕ) (field : Field)
    → length (wide_texts_of lines) ≡ 0 → Contains lines line → line.statement ≡ says.TotalText level wheel name
    → field_named lines name ≡ Some field → columns_of field ≤ 16
unfolding is_of_kind
narrow-field lines line level wheel name field few listed is at =
    let test = narrow-line (λ l. is_wide_text lines l.statement) lines line few listed in
    let wide : nat_lt 16 (columns_of field) ≡ false = sym (ap (is_wide_text lines) is ∙ ap is_wide at) ∙ test in
    grind (arith, nat_tests, wide)

module _ (chart : Chart) (plan : Lists) (lawful : IsLawful chart) (rise : NumbersRise chart.lines chart.end)
    (is_for : ServesChart chart.lines plan) (line : Line) (listed : Contains chart.lines line) where
  kept : (each : Rule) (statement : Statement) → line.statement ≡ statement
      → (earlier : List Line) × (breaks each chart.lines earlier statement ≡ false)
  kept each statement is =
      let by_line = kept-line chart lawful line listed each in
      (by_line.0, ap (breaks each chart.lines by_line.0) (sym is) ∙ by_line.1)

  -- the field of a name that a line uses
  named : (statement : Statement) (name : List ℕ) → line.statement ≡ statement
      → ((earlier : List Line) → breaks rule.UnknownName chart.lines earlier statement ≡ is_unknown (fields_of chart.lines) (Some name))
      → (field : Field) × (field_named chart.lines name ≡ Some field)
  named statement name is same =
      let known = kept rule.UnknownName statement is in
      known-name (field_named chart.lines name) (sym (same known.0) ∙ known.1)

  wheels : (statement : Statement) (found : Item) (from end : ℕ) → line.statement ≡ statement
      → item_of (fields_of chart.lines) statement ≡ Some found → found.first ≡ from → found.end ≡ end → (1 ≤ from) × (end ≤ 121)
  wheels statement found from end is item e f =
      let known = kept rule.WheelRange statement is in
      let within = wheels-within found.first found.end (sym (ap is_off_wheels item) ∙ known.1) in
      (omega (arith, within.0, e), omega (arith, within.1, f))

  literal-wheels : (statement : Statement) (wheel : ℕ) (text : List ℕ) (found : Item) → line.statement ≡ statement
      → item_of (fields_of chart.lines) statement ≡ Some found → found.first ≡ wheel → found.end ≡ wheel + length text
      → HasWheels wheel (length text)
  literal-wheels statement wheel text found is item e f =
      let within = wheels statement found wheel (wheel + length text) is item e f in
      record { first = within.0; last = within.1 }

  control-good : (level : ControlLevel) (name : List ℕ) → line.statement ≡ says.Control level name
      → IsNamed (field_named chart.lines name) IsOnCard
  control-good level name is =
      let known = named (says.Control level name) name is (λ earlier. refl) in
      named-by (field_named chart.lines name) known.0 IsOnCard known.1 (good-field chart lawful name known.0 known.1).card

  detail-good : (wheel : ℕ) (name : List ℕ) (shown : DetailOption) → line.statement ≡ says.DetailField wheel name shown
      → IsNamed (field_named chart.lines name) (IsGoodDetail wheel shown)
  detail-good wheel name shown is =
      let known = named (says.DetailField wheel name shown) name is (λ earlier. refl) in
      let good = good-field chart lawful name known.0 known.1 in
      named-by (field_named chart.lines name) known.0 (IsGoodDetail wheel shown) known.1
      (record { card = good.card; wheels = by known.0 known.1 good.decimals known.0.kind refl })
    where
      by : (field : Field) → field_named chart.lines name ≡ Some field
          → decimals_of field.kind ≤ columns_of field
          → (kind : FieldKind) → field.kind ≡ kind → DetailRanges wheel field shown kind
      by field at whole holds.Text is_kind =
          let item : item_of (fields_of chart.lines) (says.DetailField wheel name shown) ≡ Some (detail_item wheel shown (columns_of field) holds.Text) =
          ap (option_map (λ f. detail_item wheel shown (columns_of f) f.kind)) at
          ∙ ap (λ k. Some (detail_item wheel shown (columns_of field) k)) is_kind in
          let within = wheels (says.DetailField wheel name shown) (detail_item wheel shown (columns_of field) holds.Text) wheel
          (wheel + columns_of field) is item refl refl in
          record { first = within.0; last = within.1 }
      by field at whole (holds.Amount decimals rule) is_kind =
          let item : item_of (fields_of chart.lines) (says.DetailField wheel name shown)
          ≡ Some (detail_item wheel shown (columns_of field) (holds.Amount decimals rule)) =
          ap (option_map (λ f. detail_item wheel shown (columns_of f) f.kind)) at
          ∙ ap (λ k. Some (detail_item wheel shown (columns_of field) k)) is_kind in
          let within = wheels (says.DetailField wheel name shown) (detail_item wheel shown (columns_of field) (holds.Amount decimals rule))
          wheel (wheel + (columns_of field + cond (nat_lt 0 decimals) 1 0 + mark_width (mark_shown shown))) is item refl refl in
          let decimals_are : decimals_of field.kind ≡ decimals = ap decimals_of is_kind in
          record {
            first = within.0;
            last = ends (columns_of field) decimals (decimals_of field.kind) (mark_width (mark_shown shown)) decimals_are within.1;
            whole = whole;
          }
        where
          ends : (digits decimals same width : ℕ) → same ≡ decimals
              → wheel + (digits + cond (nat_lt 0 decimals) 1 0 + width) ≤ 121 → mark_wheel wheel digits same + width ≤ 121
          ends digits decimals same width e less =
              let P : ℕ → Type 0 = λ d. mark_wheel wheel digits d + width ≤ 121 in
              subst P (sym e) (omega (arith, less))

  total_text-good : (level : Level) (wheel : ℕ) (name : List ℕ) → line.statement ≡ says.TotalText level wheel name
      → IsNamed (field_named chart.lines name) (IsGoodTotalText wheel)
  total_text-good level wheel name is =
      let known = named (says.TotalText level wheel name) name is (λ earlier. refl) in
      let good = good-field chart lawful name known.0 known.1 in
      let right = kept rule.WrongKind (says.TotalText level wheel name) is in
      let text : is_amount known.0.kind ≡ false = sym (ap names_amount known.1) ∙ right.1 in
      let item = ap (option_map (λ f. text_item (Body (body.Total level)) wheel (columns_of f))) known.1 in
      let within = wheels (says.TotalText level wheel name) (text_item (Body (body.Total level)) wheel (columns_of known.0)) wheel
      (wheel + columns_of known.0) is item refl refl in
      named-by (field_named chart.lines name) known.0 (IsGoodTotalText wheel) known.1
      (record {
        card = good.card;
        holds_text = text;
        narrow = narrow-of known.0 known.1;
        wheels = record { first = within.0; last = within.1 };
      })
    where
      few : length (wide_texts_of chart.lines) ≡ 0
      few = none (length (wide_texts_of chart.lines)) is_for.storage_width
        where
          none : (n : ℕ) → ¬ (0 < n) → n ≡ 0
          none zero not_more = refl
          none (suc n) not_more = absurd (not_more (omega arith))

      narrow-of : (field : Field) → field_named chart.lines name ≡ Some field → columns_of field ≤ 16
      narrow-of field at = narrow-field chart.lines line level wheel name field few listed is at

  -- the next higher total has as many digits, and a counter for them
  higher-counter : (total : TotalLine)
      → line.statement ≡ says.TotalAmount total → (other : ℕ)
      → IsNextHigher chart.lines total.name (level_number total.level) other → HasCounterFor chart.lines plan other total.digits
  higher-counter total is other next_one =
      let found = counter-for chart.lines plan chart.end rise is_for total.name next_one.higher other next_one.total in
      let less : total.digits ≤ next_one.total.asked.digits =
      digits-grow chart total.name lawful (level_number total.level) next_one.higher line.number other next_one.above (total-of chart.lines line total listed is)
      next_one.total in
      let enough = found.wide in
      record { counter = found.counter; there = found.there; on_panel = found.on_panel; wide = omega (arith, less, enough) }

  -- the next higher total stands on one line
  next-alone : (level : Level) (name : List ℕ) (former latter : ℕ) → IsNextHigher chart.lines name (level_number level) former
      → IsNextHigher chart.lines name (level_number level) latter → former ≡ latter
  next-alone level name former latter is is_other =
      by (cases_lt is.higher is_other.higher) (cases_lt is_other.higher is.higher)
    where
      by : (is.higher < is_other.higher) ⊎ (is_other.higher ≤ is.higher) → (is_other.higher < is.higher) ⊎ (is.higher ≤ is_other.higher)
          → former ≡ latter
      by (inl less) either = absurd (is_other.next is.higher former is.above less is.total)
      by (inr more) (inl less) = absurd (is.next is_other.higher latter is_other.above less is_other.total)
      by (inr more) (inr less) =
          let same : is.higher ≡ is_other.higher = omega (arith, more, less) in
          let P : ℕ → Type 0 = λ h. HasTotal chart.lines name h former in
          one-total chart name lawful is_other.higher former latter (subst P same is.total) is_other.total

  amount-good : (total : TotalLine)
      → line.statement ≡ says.TotalAmount total
      → IsNamed (field_named chart.lines total.name) (IsGoodTotal chart.lines plan line.number total)
  amount-good total is =
      let known = named (says.TotalAmount total) total.name is (λ earlier. refl) in
      let good = good-field chart lawful total.name known.0 known.1 in
      let right = kept rule.WrongKind (says.TotalAmount total) is in
      let amount : is_amount known.0.kind ≡ true = not-false (is_amount known.0.kind) (sym (ap names_text known.1) ∙ right.1) in
      let own = total-of chart.lines line total listed is in
      let enough = (total-digits chart total.name lawful (level_number total.level) line.number known.0 own known.1).enough in
      let decimals = good.decimals in
      let item = ap (option_map (λ f. total_item total f.kind)) known.1 in
      let within = wheels (says.TotalAmount total) (total_item total known.0.kind) total.wheel
      (total.wheel + (total.digits + cond (nat_lt 0 (decimals_of known.0.kind)) 1 0 + mark_width total.mark)) is item refl refl in
      named-by (field_named chart.lines total.name) known.0 (IsGoodTotal chart.lines plan line.number total) known.1
      (record {
        card = good.card;
        holds_amount = amount;
        wheels = record {
          first = within.0;
          last = omega (arith, within.1);
          whole = omega (arith, decimals, enough);
        };
        enough = enough;
        counter = counter-for chart.lines plan chart.end rise is_for total.name (level_number total.level) line.number own;
        higher = higher-counter total is;
        alone = next-alone total.level total.name;
      })

  channel-good : (line_kind : BodyLine) (follows : After) → line.statement ≡ says.After line_kind follows → HasChannel follows
  channel-good line_kind action.Page is = tt
  channel-good line_kind (action.Skip channel) is =
      let known = kept rule.Tape (says.After line_kind (action.Skip channel)) is in
      let has : has_tape chart.lines channel ≡ true = not-false (has_tape chart.lines channel) known.1 in
      let found = any-passing (λ l. is_tape_of channel l.statement) chart.lines has in
      let tape = kept-line chart lawful found.element found.listed rule.Tape in
      of-tape tape.0 found.element.statement found.passes tape.1
    where
      good-channel : (its_channel : ℕ) (a b : Bool) → (its_channel == channel) ≡ true
          → not (nat_le 2 its_channel && nat_le its_channel 11 && a && b) ≡ false → (1 ≤ channel) × (channel ≤ 12)
      good-channel its_channel a b same good = (grind (arith, nat_tests, same, good), grind (arith, nat_tests, same, good))

      of-tape : (earlier : List Line) (statement : Statement) → is_tape_of channel statement ≡ true
          → breaks rule.Tape chart.lines earlier statement ≡ false → (1 ≤ channel) × (channel ≤ 12)
      of-tape earlier (says.Tape its_channel stops) same good =
          good-channel its_channel (rise_above 0 stops) (are_within (form_lines chart.lines) stops) same good
      of-tape earlier other same good = cc

  good : (statement : Statement) → line.statement ≡ statement → IsGood chart.lines plan line.number statement
  good (says.Field field) is =
      good-sign (sign_column field.kind)
      (good-listed chart lawful field (listed-given (λ (each : Line). field_of each.statement) chart.lines line field listed (ap field_of is))).sign
  good (says.Control level name) is = control-good level name is
  good (says.Head its_line wheel text) is =
      literal-wheels (says.Head its_line wheel text) wheel text (text_item (Heading its_line) wheel (length text)) is refl refl refl
  good (says.DetailLiteral wheel text) is =
      literal-wheels (says.DetailLiteral wheel text) wheel text (text_item (Body body.Detail) wheel (length text)) is refl refl refl
  good (says.DetailField wheel name shown) is = detail-good wheel name shown is
  good (says.TotalLiteral level wheel text) is =
      literal-wheels (says.TotalLiteral level wheel text) wheel text (text_item (Body (body.Total level)) wheel (length text)) is refl refl refl
  good (says.TotalText level wheel name) is = total_text-good level wheel name is
  good (says.TotalAmount total) is = amount-good total is
  good (says.After its_line follows) is = channel-good its_line follows is
  good other is = tt

-- what is known of each line of a lawful chart, with a plan for it
pub good-lines : (chart : Chart) (plan : Lists) → IsLawful chart → NumbersRise chart.lines chart.end → ServesChart chart.lines plan
    → (place : ℕ) (line : Line) → slice_get chart.lines place ≡ Some line → IsGood chart.lines plan line.number line.statement
good-lines chart plan lawful rise is_for place line at =
    good chart plan lawful rise is_for line (listed-at chart.lines place line at) line.statement refl

-- the same of a line by its being listed
pub good-line : (chart : Chart) (plan : Lists) → IsLawful chart → NumbersRise chart.lines chart.end → ServesChart chart.lines plan
    → (line : Line) → Contains chart.lines line → IsGood chart.lines plan line.number line.statement
good-line chart plan lawful rise is_for line listed = good chart plan lawful rise is_for line listed line.statement refl
