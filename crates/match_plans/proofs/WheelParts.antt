-- On a panel that is wired for a chart by a plan, the splits and the indicate positions of the plan lead to the wheels of what passes
-- through them, and no others do.
use Rattle.std.proofs.Common.{◌≡◌, ◌∙◌, refl, sym, ap, subst, ℕ, suc, ◌+◌, ◌-◌, ◌<◌, ◌≤◌, ◌==◌, Bool, true, false, List, [], ◌∷◌, ◌++◌, Contains, Option, Some, None, is_some, length, map, filter, drop, get_or, slice_get, option_map, nat_le, if◌then◌else◌, arith, append_assoc, append-nil}
use Rattle.std.specs.List.{range_with_len}
use Rattle.std.proofs.lemmas.Bool.{and_parts}
use Rattle.std.proofs.lemmas.Bool.Decides.{nat_tests}
use Rattle.std.proofs.lemmas.List.{drop_all, length-map}
use Rattle.std.proofs.lemmas.List.FromFn.{length-range_with_len}
use Rattle.std.proofs.lemmas.Option.{same_Some, slice_get-get_or}
use Rattle.std.proofs.Math.Seq.{drop-cons}
use Rattle.chart_rules.specs.Rules.{IsLawful, breaks}
use Rattle.chart_rules.specs.declared.rule.Rule.TheVariants as rule
use Rattle.chart_rules.proofs.Laws.{kept-line}
use Rattle.chart_lines.specs.ChartsWords.Chart.{Chart, NumbersRise}
use Rattle.chart_lines.specs.ChartsWords.Field.{columns_of, decimals_of, is_amount, sign_column}
use Rattle.chart_lines.specs.ChartsWords.Levels.{control_number}
use Rattle.chart_lines.specs.declared.charts.chart.Line.{Line}
use Rattle.chart_lines.specs.declared.charts.level.ControlLevel.{ControlLevel}
use Rattle.chart_lines.specs.declared.charts.level.ControlLevel.TheVariants as control
use Rattle.chart_lines.specs.declared.charts.statement.DetailOption.{DetailOption}
use Rattle.chart_lines.specs.declared.charts.statement.DetailOption.TheVariants as shown
use Rattle.chart_lines.specs.declared.charts.statement.Field.{Field}
use Rattle.chart_lines.specs.declared.charts.statement.FieldKind.{FieldKind}
use Rattle.chart_lines.specs.declared.charts.statement.FieldKind.TheVariants as holds
use Rattle.chart_lines.specs.declared.charts.statement.Statement.{Statement}
use Rattle.chart_lines.specs.declared.charts.statement.Statement.TheVariants as says
use Rattle.chart_line_rules.specs.FieldRules.Fields.{field_named, fields_of}
use Rattle.chart_line_rules.specs.FieldRules.Names.{names_amount}
use Rattle.hubs.specs.declared.hub.Hub.{Hub}
use Rattle.hubs.specs.declared.hub.Hub.TheVariants.{CSD, IX, W}
use Rattle.match_plans.specs.WheelParts.{AreLed, LeadsTo, detail_wheel, exit_of, indicated_wheels, sign_wheel, split_wheel, split_wheels, wheel_at, wheels_from, wheels_on}
use Rattle.match_plans.specs.Wired.{IsWiredBy}
use Rattle.match_plans.specs.declared.wheel_parts.WheelPart.{WheelPart}
use Rattle.match_plans.specs.declared.wheel_parts.WheelPart.TheVariants as by_wheel
use Rattle.match_plans.proofs.Asked.{asks}
use Rattle.match_plans.proofs.Apart.{HasOwnPlaces, apart-lines, number-at, own-place, positions-apart}
use Rattle.match_plans.proofs.Wheels.{on-wheels}
use Rattle.match_plans.proofs.Zipped.{get-map, given-at, given-many, part-at, parts-many, range-at, range-get}
use Rattle.chart_plans.specs.PlansWords.PartNumbers.{AreNumbers, numbers_of}
use Rattle.chart_plans.specs.declared.plans.part_numbers.PartKind.TheVariants as kind
use Rattle.chart_plans.specs.PlansWords.Plans.{Lists}
use Rattle.chart_line_rules.specs.PrintRules.Items.{detail_item, is_same_line, item_of}
use Rattle.chart_line_rules.specs.PrintRules.Wheels.{HasWheel}
use Rattle.proof_reports.proofs.PrintedLines.Meeting.{one-line}
use Rattle.hubs.specs.SetupsWords.Wiring.{HasWire, Wiring}
use Rattle.chart_plans.specs.WantedWords.Positions.{field_used, indicate_of, indicated_field, is_same_position, positions_for}
use Rattle.chart_plans.specs.WantedWords.Units.{has_inside_sign, is_inside, is_of_kind, is_split_amount}
use Rattle.chart_plans.specs.WantedWords.Wanted.{Parts, indicate_at}
use Rattle.chart_plans.specs.declared.wanted.position.Position.{Position}
use Rattle.wiring_table.specs.Figures.{IsAmount, IsText, digit_wheel}
use Rattle.wiring_table.specs.Parts.{column_on, indicate_for, split_for}
use Rattle.wiring_table.specs.Wires.{ChartWire, LineWire}
use Rattle.wiring_table.specs.Wires.LineWire.{detail_mark_out, indicated_text_out, split_digit_out}
use Rattle.match_plans.proofs.Clashes.{apart, clash, is_indicate, is_side, is_split, side-is, to_wheel}

-- a field with a sign column is an amount
signed-amount : (kind : FieldKind) (column : ℕ) → sign_column kind ≡ Some column → is_amount kind ≡ true
signed-amount holds.Text column is = cc
signed-amount (holds.Amount decimals rule) column is = refl

-- fields on the line of a card are on one printed line, and stand on these wheels
pub same-detail : (w : ℕ) (h : DetailOption) (c : ℕ) (k : FieldKind) (wheel : ℕ) (how : DetailOption) (columns : ℕ) (kind : FieldKind)
    → is_same_line (detail_item w h c k).line (detail_item wheel how columns kind).line ≡ true
same-detail w h c holds.Text wheel how columns holds.Text = refl
same-detail w h c holds.Text wheel how columns (holds.Amount d r) = refl
same-detail w h c (holds.Amount d r) wheel how columns holds.Text = refl
same-detail w h c (holds.Amount d r) wheel how columns (holds.Amount decimals rule) = refl

pub detail-on : (lines : List Line) (statement : Statement) (wheel : ℕ) (name : List ℕ) (how : DetailOption) (field : Field)
    → statement ≡ says.DetailField wheel name how → field_named lines name ≡ Some field
    → item_of (fields_of lines) statement ≡ Some (detail_item wheel how (columns_of field) field.kind)
detail-on lines statement wheel name how field says_it named =
    ap (item_of (fields_of lines)) says_it
    ∙ ap (λ o. option_map (λ (each : Field). detail_item wheel how (columns_of each) each.kind) o) named

digit-there : (wheel : ℕ) (how : DetailOption) (columns : ℕ) (kind : FieldKind) (position : ℕ) → is_amount kind ≡ true → 1 ≤ position
    → position ≤ columns → HasWheel (detail_item wheel how columns kind) (digit_wheel wheel columns (decimals_of kind) position)
digit-there wheel how columns holds.Text position amount from to = cc
digit-there wheel how columns (holds.Amount decimals rule) position amount from to =
    let on = on-wheels wheel columns decimals position from to in
    (on.0, omega (arith, on.1))

column-there : (wheel : ℕ) (how : DetailOption) (columns : ℕ) (kind : FieldKind) (j : ℕ) → is_amount kind ≡ false → j < columns
    → HasWheel (detail_item wheel how columns kind) (wheel + j)
column-there wheel how columns holds.Text j text within = (omega arith, omega (arith, within))
column-there wheel how columns (holds.Amount decimals rule) j text within = cc

-- what a line with the wheel of a split is
record SplitAt (lines : List Line) (statement : Statement) (v : ℕ) : Type 0 where
  wheel : ℕ
  name : List ℕ
  how : DetailOption
  field : Field
  position : ℕ
  says_detail : statement ≡ says.DetailField wheel name how
  named : field_named lines name ≡ Some field
  from : 1 ≤ position
  to : position ≤ columns_of field
  signed : sign_column field.kind ≡ Some (field.last + 1 - position)
  at : digit_wheel wheel (columns_of field) (decimals_of field.kind) position ≡ v

split-line : (lines : List Line) (statement : Statement) (v : ℕ) → split_wheel lines statement ≡ Some v → SplitAt lines statement v
split-line lines (says.DetailField wheel name how) v is = of_name (field_named lines name) refl is
  where
    inside : (field : Field) → field_named lines name ≡ Some field → (column : ℕ) → sign_column field.kind ≡ Some column
        → (b : Bool) → is_inside field (Some column) ≡ b
        → (if b then Some (digit_wheel wheel (columns_of field) (decimals_of field.kind) (field.last + 1 - column)) else None) ≡ Some v
        → SplitAt lines (says.DetailField wheel name how) v
    inside field named column signed false within e = cc
    inside field named column signed true within e =
        let both = and_parts (nat_le field.first column) (nat_le column field.last) within in
        let low : field.first ≤ column = grind (arith, nat_tests, both.0) in
        let high : column ≤ field.last = grind (arith, nat_tests, both.1) in
        let same : digit_wheel wheel (columns_of field) (decimals_of field.kind) (field.last + 1 - column) ≡ v = cc in
        let back : column ≡ field.last + 1 - (field.last + 1 - column) = omega (arith, high) in
        record {
          wheel = wheel;
          name = name;
          how = how;
          field = field;
          position = field.last + 1 - column;
          says_detail = refl;
          named = named;
          from = omega (arith, high);
          to = omega (arith, low, high);
          signed = signed ∙ ap Some back;
          at = same;
        }

    of_sign : (field : Field) → field_named lines name ≡ Some field → (column : Option ℕ) → sign_column field.kind ≡ column
        → wheel_at wheel field column ≡ Some v → SplitAt lines (says.DetailField wheel name how) v
    of_sign field named None signed e = cc
    of_sign field named (Some column) signed e = inside field named column signed (is_inside field (Some column)) refl e

    of_name : (o : Option Field) → field_named lines name ≡ o → sign_wheel wheel o ≡ Some v
        → SplitAt lines (says.DetailField wheel name how) v
    of_name None named e = cc
    of_name (Some field) named e = of_sign field named (sign_column field.kind) refl e
split-line lines other v is = cc

split-tested : (lines : List Line) (statement : Statement) → is_split_amount lines statement ≡ is_some (split_wheel lines statement)
split-tested lines (says.DetailField wheel name how) = of_name (field_named lines name)
  where
    inside : (field : Field) (column : ℕ) (b : Bool)
        → b ≡ is_some (if b then Some (digit_wheel wheel (columns_of field) (decimals_of field.kind) (field.last + 1 - column)) else None)
    inside field column true = refl
    inside field column false = refl

    of_sign : (field : Field) (column : Option ℕ) → is_inside field column ≡ is_some (wheel_at wheel field column)
    of_sign field None = refl
    of_sign field (Some column) = inside field column (is_inside field (Some column))

    of_name : (o : Option Field) → has_inside_sign o ≡ is_some (sign_wheel wheel o)
    of_name None = refl
    of_name (Some field) = of_sign field (sign_column field.kind)
split-tested lines other = refl

-- control levels of one number are one
one-level : (one other : ControlLevel) → control_number one ≡ control_number other → one ≡ other
one-level control.Minor control.Minor same = refl
one-level control.Intermediate control.Intermediate same = refl
one-level control.Major control.Major same = refl
one-level one other same = cc

-- what a line with a text that is indicated at a level is
record IndicatedAt (lines : List Line) (level : ControlLevel) (statement : Statement) (field : Field) : Type 0 where
  wheel : ℕ
  name : List ℕ
  says_detail : statement ≡ says.DetailField wheel name (shown.Indicated level)
  named : field_named lines name ≡ Some field
  is_wheel : detail_wheel statement ≡ wheel

indicated-line : (lines : List Line) (level : ControlLevel) (statement : Statement) (field : Field)
    → indicated_field lines level statement ≡ Some field → IndicatedAt lines level statement field
indicated-line lines level (says.DetailField wheel name (shown.Indicated its)) field is =
    of_level (control_number its == control_number level) refl is
  where
    of_level : (b : Bool) → (control_number its == control_number level) ≡ b → (if b then field_named lines name else None) ≡ Some field
        → IndicatedAt lines level (says.DetailField wheel name (shown.Indicated its)) field
    of_level false same e = cc
    of_level true same e =
        let numbers : control_number its ≡ control_number level = grind (arith, nat_tests, same) in
        record {
          wheel = wheel;
          name = name;
          says_detail = ap (λ l. says.DetailField wheel name (shown.Indicated l)) (one-level its level numbers);
          named = e;
          is_wheel = refl;
        }
indicated-line lines level other field is = cc

module _ (lines : List Line) (plan : Lists) where
  -- an amount whose sign digit a split puts on a wheel
  record SplitOf (number : ℕ) (statement : Statement) (split v : ℕ) : Type 0 where
    wheel : ℕ
    name : List ℕ
    how : DetailOption
    field : Field
    position : ℕ
    says_detail : statement ≡ says.DetailField wheel name how
    amount : IsAmount lines name field
    from : 1 ≤ position
    to : position ≤ columns_of field
    served : split_for plan number ≡ Some split
    at : digit_wheel wheel (columns_of field) (decimals_of field.kind) position ≡ v

  split-of : {number : ℕ} {statement : Statement} {exit entry : Hub} (split v : ℕ)
      → LineWire lines plan number statement exit entry → exit ≡ CSD split → entry ≡ W v → SplitOf number statement split v
  split-of split v (split_digit_out wheel name how field position its amount from to signed served) e f =
      let same_split : its ≡ split = cc in
      let same_wheel : digit_wheel wheel (columns_of field) (decimals_of field.kind) position ≡ v = cc in
      record {
        wheel = wheel;
        name = name;
        how = how;
        field = field;
        position = position;
        says_detail = refl;
        amount = amount;
        from = from;
        to = to;
        served = served ∙ ap Some same_split;
        at = same_wheel;
      }
  split-of split v (detail_mark_out wheel name mark rule field pilot k row p0 p1 p2 p3) e f = clash is_side e (side-is rule pilot (2 + k)) refl
  split-of split v other e f = apart (to_wheel is_split) e f refl refl

  -- a text of which an indicate position of a level puts a column on a wheel
  record IndicateOf (level : ControlLevel) (number : ℕ) (statement : Statement) (x v : ℕ) : Type 0 where
    wheel : ℕ
    name : List ℕ
    field : Field
    j : ℕ
    says_detail : statement ≡ says.DetailField wheel name (shown.Indicated level)
    is_text : IsText lines name field
    inside : j < columns_of field
    served : indicate_for plan level number (field.first + j) ≡ Some x
    at : wheel + j ≡ v

  indicate-of : {number : ℕ} {statement : Statement} {exit entry : Hub} (level : ControlLevel) (x v : ℕ)
      → LineWire lines plan number statement exit entry → exit ≡ IX (control_number level) x → entry ≡ W v
      → IndicateOf level number statement x v
  indicate-of {number} level x v (indicated_text_out wheel name its field j own is_text within served) e f =
      let numbers : control_number its ≡ control_number level = cc in
      let levels = one-level its level numbers in
      let same_own : own ≡ x = cc in
      let same_wheel : wheel + j ≡ v = cc in
      record {
        wheel = wheel;
        name = name;
        field = field;
        j = j;
        says_detail = ap (λ l. says.DetailField wheel name (shown.Indicated l)) levels;
        is_text = is_text;
        inside = within;
        served = ap (λ l. indicate_for plan l number (field.first + j)) (sym levels) ∙ served ∙ ap Some same_own;
        at = same_wheel;
      }
  indicate-of level x v (detail_mark_out wheel name mark rule field pilot k row p0 p1 p2 p3) e f = clash is_side e (side-is rule pilot (2 + k)) refl
  indicate-of level x v other e f = apart (to_wheel is_indicate) e f refl refl

module _ (chart : Chart) (setup : Wiring) (lawful : IsLawful chart) (rise : NumbersRise chart.lines chart.end) (its : Lists)
    (wired : IsWiredBy chart.lines setup its) where
  -- a text that is indicated holds characters
  indicated-text : (line : Line) (wheel : ℕ) (name : List ℕ) (level : ControlLevel) (field : Field) → Contains chart.lines line
      → line.statement ≡ says.DetailField wheel name (shown.Indicated level) → field_named chart.lines name ≡ Some field
      → is_amount field.kind ≡ false
  indicated-text line wheel name level field listed says_it named =
      let (earlier, right_kind) = kept-line chart lawful line listed rule.WrongKind in
      sym (ap names_amount named) ∙ sym (ap (breaks rule.WrongKind chart.lines earlier) says_it) ∙ right_kind

  split-test : Line → Bool
  split-test line = is_split_amount chart.lines line.statement

  served-splits : its.parts.splits ≡ map (λ (line : Line). line.number) (filter (λ (line : Line). is_split_amount chart.lines line.statement) chart.lines)
  unfolding is_of_kind
  served-splits = ap (λ (p : Parts). p.splits) wired.planned.parts

  splits-apart : HasOwnPlaces its.parts.splits
  splits-apart =
      subst HasOwnPlaces (sym served-splits)
      (own-place (map (λ (line : Line). line.number) (filter (λ (line : Line). is_split_amount chart.lines line.statement) chart.lines))
      (apart-lines (λ line. is_split_amount chart.lines line.statement) chart.lines chart.end rise))

  -- the split of an amount leads to the wheel of its sign digit, and no other does
  split-led : (place v split : ℕ) → slice_get (split_wheels chart.lines) place ≡ Some v
      → slice_get its.numbers.splits place ≡ Some split → LeadsTo setup by_wheel.Split 16 v split
  split-led place v split here at =
      let range = (wired.planned.numbers kind.Split).there place split at in
      let d = given-at (λ (line : Line). split_wheel chart.lines line.statement) (λ (line : Line). is_split_amount chart.lines line.statement)
      (λ (line : Line). line.number) (λ line. split-tested chart.lines line.statement) chart.lines place v here in
      by_line d.x d.listed (split-line chart.lines d.x.statement v d.gives) range.0 range.1 (d.beside)
    where
      by_line : (line : Line) → Contains chart.lines line → SplitAt chart.lines line.statement v → 1 ≤ split → split ≤ 16
          → slice_get (map (λ (each : Line). each.number) (filter (λ (each : Line). is_split_amount chart.lines each.statement) chart.lines)) place
          ≡ Some line.number
          → LeadsTo setup by_wheel.Split 16 v split
      by_line line listed s from to beside = record { from = from; to = to; leads = leads; only = only }
        where
          served : split_for its line.number ≡ Some split
          served =
              number-at (λ one other. other == one) (λ one. grind (arith, nat_tests)) (λ one other same. grind (arith, nat_tests, same))
              its.parts.splits its.numbers.splits (wired.planned.numbers kind.Split).many splits-apart line.number place
              (ap (λ list. slice_get list place) served-splits ∙ beside) ∙ at

          its_amount : is_amount s.field.kind ≡ true
          its_amount = signed-amount s.field.kind (s.field.last + 1 - s.position) s.signed

          leads : HasWire setup (CSD split) (W v)
          leads =
              subst (λ w. HasWire setup (CSD split) (W w)) s.at
              (asks wired.wired line listed s.says_detail
              (split_digit_out s.wheel s.name s.how s.field s.position split (record { named = s.named; holds_amount = its_amount })
              s.from s.to s.signed served))

          only : (other : ℕ) → 1 ≤ other → other ≤ 16 → HasWire setup (CSD other) (W v) → other ≡ split
          only other low high its_wire =
              let puts : ChartWire chart.lines its (CSD other) (W v) = (wired.wired.wires (CSD other) (W v)).0 its_wire in
              let o = split-of chart.lines its other v puts.wire refl refl in
              let same = one-line chart lawful line puts.line _ _ v listed puts.listed
              (detail-on chart.lines line.statement s.wheel s.name s.how s.field s.says_detail s.named)
              (detail-on chart.lines puts.line.statement o.wheel o.name o.how o.field o.says_detail o.amount.named)
              (same-detail s.wheel s.how (columns_of s.field) s.field.kind o.wheel o.how (columns_of o.field) o.field.kind)
              (same-detail o.wheel o.how (columns_of o.field) o.field.kind s.wheel s.how (columns_of s.field) s.field.kind)
              (subst (HasWheel (detail_item s.wheel s.how (columns_of s.field) s.field.kind)) s.at
              (digit-there s.wheel s.how (columns_of s.field) s.field.kind s.position its_amount s.from s.to))
              (subst (HasWheel (detail_item o.wheel o.how (columns_of o.field) o.field.kind)) o.at
              (digit-there o.wheel o.how (columns_of o.field) o.field.kind o.position o.amount.holds_amount o.from o.to)) in
              same_Some other split (sym o.served ∙ ap (λ (l : Line). split_for its l.number) (sym same) ∙ served)

  pub splits-led : AreLed setup by_wheel.Split 16 (split_wheels chart.lines) its.numbers.splits
  splits-led = record {
    many = (wired.planned.numbers kind.Split).many ∙ ap length served-splits
        ∙ given-many (λ (line : Line). split_wheel chart.lines line.statement) (λ (line : Line). is_split_amount chart.lines line.statement)
        (λ (line : Line). line.number) (λ line. split-tested chart.lines line.statement) chart.lines;
    each = split-led;
  }

  module _ (level : ControlLevel) where
    abbrev positions_on : Line → List Position
    positions_on line = positions_for line.number (indicated_field chart.lines level line.statement)

    served-indicates : indicate_at its.parts level ≡ indicate_of level chart.lines
    served-indicates = at level
      where
        at : (l : ControlLevel) → indicate_at its.parts l ≡ indicate_of l chart.lines
        at control.Minor = ap (λ (p : Parts). p.minor) wired.planned.parts
        at control.Intermediate = ap (λ (p : Parts). p.intermediate) wired.planned.parts
        at control.Major = ap (λ (p : Parts). p.major) wired.planned.parts

    its-numbers : AreNumbers 30 (length (indicate_at its.parts level)) (numbers_of its.numbers (kind.Indicate level))
    its-numbers = wired.planned.numbers (kind.Indicate level)

    many-on : (line : Line) → length (wheels_on chart.lines level line.statement) ≡ length (positions_on line)
    unfolding positions_for
    many-on line = by (indicated_field chart.lines level line.statement)
      where
        by : (o : Option Field) → length (wheels_from (detail_wheel line.statement) o) ≡ length (positions_for line.number o)
        by None = refl
        by (Some field) =
            length-range_with_len (detail_wheel line.statement) (columns_of field)
            ∙ sym (length-map (range_with_len field.first (columns_of field)) (column_on line.number)
            ∙ length-range_with_len field.first (columns_of field))

    indicates-apart : HasOwnPlaces (indicate_at its.parts level)
    unfolding field_used
    indicates-apart =
        subst HasOwnPlaces (sym served-indicates)
        (own-place (indicate_of level chart.lines)
        (positions-apart (λ line. indicated_field chart.lines level line.statement) chart.lines chart.end rise))

    -- the indicate position of a column leads to its wheel, and no other does
    indicate-led : (place v x : ℕ) → slice_get (indicated_wheels chart.lines level) place ≡ Some v
        → slice_get (numbers_of its.numbers (kind.Indicate level)) place ≡ Some x → LeadsTo setup (by_wheel.Indicated level) 30 v x
    unfolding field_used positions_for
    indicate-led place v x here at =
        let range = its-numbers.there place x at in
        let d = part-at (λ (line : Line). wheels_on chart.lines level line.statement) positions_on many-on chart.lines place v here in
        of_field d.x d.listed d.j (indicated_field chart.lines level d.x.statement) refl d.at d.beside range.0 range.1
      where
        by_line : (line : Line) → Contains chart.lines line → (j : ℕ) (field : Field) → IndicatedAt chart.lines level line.statement field
            → (j < columns_of field) → v ≡ detail_wheel line.statement + j
            → slice_get (indicate_of level chart.lines) place ≡ Some (column_on line.number (field.first + j))
            → 1 ≤ x → x ≤ 30 → LeadsTo setup (by_wheel.Indicated level) 30 v x
        by_line line listed j field i inside is beside from to = record { from = from; to = to; leads = leads; only = only }
          where
            same-position : (one other : Position) → is_same_position other one ≡ true → other ≡ one
            same-position one other same =
                let (lines_same, columns_same) = and_parts (other.line == one.line) (other.column == one.column) same in
                let lines : other.line ≡ one.line = grind (arith, nat_tests, lines_same) in
                let columns : other.column ≡ one.column = grind (arith, nat_tests, columns_same) in
                ap (λ n. column_on n other.column) lines ∙ ap (column_on one.line) columns

            served : indicate_for its level line.number (field.first + j) ≡ Some x
            served =
                number-at (λ one other. is_same_position other one) (λ one. grind (arith, nat_tests)) same-position
                (indicate_at its.parts level) (numbers_of its.numbers (kind.Indicate level)) its-numbers.many indicates-apart
                (column_on line.number (field.first + j)) place
                (ap (λ list. slice_get list place) served-indicates ∙ beside) ∙ at

            text : is_amount field.kind ≡ false
            text = indicated-text line i.wheel i.name level field listed i.says_detail i.named

            at_wheel : i.wheel + j ≡ v
            at_wheel = sym (is ∙ ap (λ w. w + j) i.is_wheel)

            leads : HasWire setup (IX (control_number level) x) (W v)
            leads =
                subst (λ w. HasWire setup (IX (control_number level) x) (W w)) at_wheel
                (asks wired.wired line listed i.says_detail
                (indicated_text_out i.wheel i.name level field j x (record { named = i.named; holds_text = text }) inside served))

            only : (other : ℕ) → 1 ≤ other → other ≤ 30 → HasWire setup (IX (control_number level) other) (W v) → other ≡ x
            only other low high its_wire =
                let puts : ChartWire chart.lines its (IX (control_number level) other) (W v) =
                (wired.wired.wires (IX (control_number level) other) (W v)).0 its_wire in
                let o = indicate-of chart.lines its level other v puts.wire refl refl in
                let same = one-line chart lawful line puts.line _ _ v listed puts.listed
                (detail-on chart.lines line.statement i.wheel i.name (shown.Indicated level) field i.says_detail i.named)
                (detail-on chart.lines puts.line.statement o.wheel o.name (shown.Indicated level) o.field o.says_detail o.is_text.named)
                (same-detail i.wheel (shown.Indicated level) (columns_of field) field.kind o.wheel (shown.Indicated level) (columns_of o.field)
                o.field.kind)
                (same-detail o.wheel (shown.Indicated level) (columns_of o.field) o.field.kind i.wheel (shown.Indicated level) (columns_of field)
                field.kind)
                (subst (HasWheel (detail_item i.wheel (shown.Indicated level) (columns_of field) field.kind)) at_wheel
                (column-there i.wheel (shown.Indicated level) (columns_of field) field.kind j text inside))
                (subst (HasWheel (detail_item o.wheel (shown.Indicated level) (columns_of o.field) o.field.kind)) o.at
                (column-there o.wheel (shown.Indicated level) (columns_of o.field) o.field.kind o.j o.is_text.holds_text o.inside)) in
                let said : says.DetailField i.wheel i.name (shown.Indicated level) ≡ says.DetailField o.wheel o.name (shown.Indicated level) =
                sym i.says_detail ∙ ap (λ (l : Line). l.statement) same ∙ o.says_detail in
                let wheels : i.wheel ≡ o.wheel = cc in
                let names : i.name ≡ o.name = cc in
                let fields : field ≡ o.field =
                same_Some field o.field (sym i.named ∙ ap (field_named chart.lines) names ∙ o.is_text.named) in
                let o_at = o.at in
                let places : o.j ≡ j = omega (arith, wheels, at_wheel, o_at) in
                let columns : o.field.first + o.j ≡ field.first + j =
                ap (λ (f : Field). f.first + o.j) (sym fields) ∙ ap (λ k. field.first + k) places in
                same_Some other x
                (sym o.served ∙ ap (λ n. indicate_for its level n (o.field.first + o.j)) (ap (λ (l : Line). l.number) (sym same))
                ∙ ap (indicate_for its level line.number) columns ∙ served)

        of_field : (line : Line) → Contains chart.lines line → (j : ℕ) (o : Option Field)
            → indicated_field chart.lines level line.statement ≡ o
            → slice_get (wheels_from (detail_wheel line.statement) (indicated_field chart.lines level line.statement)) j ≡ Some v
            → slice_get (indicate_of level chart.lines) place
            ≡ slice_get (positions_for line.number (indicated_field chart.lines level line.statement)) j
            → 1 ≤ x → x ≤ 30 → LeadsTo setup (by_wheel.Indicated level) 30 v x
        of_field line listed j None is at beside from to =
            let none = ap (λ o. slice_get (wheels_from (detail_wheel line.statement) o) j) (sym is) ∙ at in
            cc
        of_field line listed j (Some field) is at beside from to =
            let its_at : slice_get (range_with_len (detail_wheel line.statement) (columns_of field)) j ≡ Some v =
            ap (λ o. slice_get (wheels_from (detail_wheel line.statement) o) j) (sym is) ∙ at in
            let ranged = range-at (detail_wheel line.statement) (columns_of field) j v its_at in
            let place_at : slice_get (positions_for line.number (Some field)) j ≡ Some (column_on line.number (field.first + j)) =
            get-map (column_on line.number) (range_with_len field.first (columns_of field)) j (field.first + j)
            (range-get field.first (columns_of field) j ranged.0) in
            by_line line listed j field (indicated-line chart.lines level line.statement field is) ranged.0 ranged.1
            (beside ∙ ap (λ o. slice_get (positions_for line.number o) j) is ∙ place_at) from to

    pub indicates-led : AreLed setup (by_wheel.Indicated level) 30 (indicated_wheels chart.lines level) (numbers_of its.numbers (kind.Indicate level))
    unfolding field_used
    indicates-led = record {
      many = its-numbers.many ∙ ap length served-indicates
          ∙ parts-many (λ (line : Line). wheels_on chart.lines level line.statement) positions_on many-on chart.lines;
      each = indicate-led;
    }

module _ {setup : Wiring} {part : WheelPart} {last : ℕ} {wheels numbers : List ℕ} (led : AreLed setup part last wheels numbers) where
  -- the numbers so far, and one more
  pub led-more : (items : List ℕ) (place number : ℕ) → place < length wheels → 1 ≤ number → number ≤ last
      → HasWire setup (exit_of part number) (W (get_or wheels place 0)) → items ++ drop place numbers ≡ numbers
      → (items ++ number ∷ []) ++ drop (place + 1) numbers ≡ numbers
  led-more items place number within from to leads so_far =
      let few : place < length numbers = omega (arith, within, led.many) in
      let own = get_or numbers place 0 in
      let known = led.each place (get_or wheels place 0) own (slice_get-get_or wheels place 0 within) (slice_get-get_or numbers place 0 few) in
      let same : number ≡ own = known.only number from to leads in
      let next : suc place ≡ place + 1 = omega arith in
      append_assoc items (number ∷ []) (drop (place + 1) numbers)
      ∙ ap (λ n. items ++ n ∷ drop (place + 1) numbers) same
      ∙ ap (λ k. items ++ own ∷ drop k numbers) (sym next)
      ∙ ap (λ ns. items ++ ns) (sym (drop-cons numbers place 0 few)) ∙ so_far

  -- not where none leads to a wheel
  pub led-none : (place : ℕ) → place < length wheels
      → ((number : ℕ) → 1 ≤ number → number ≤ last → ¬ HasWire setup (exit_of part number) (W (get_or wheels place 0))) → ⊥
  led-none place within none =
      let few : place < length numbers = omega (arith, within, led.many) in
      let own = get_or numbers place 0 in
      let known = led.each place (get_or wheels place 0) own (slice_get-get_or wheels place 0 within) (slice_get-get_or numbers place 0 few) in
      none own known.from known.to known.leads

  -- all of them
  pub led-all : (items : List ℕ) (place : ℕ) → length wheels ≤ place → items ++ drop place numbers ≡ numbers → items ≡ numbers
  led-all items place past so_far =
      sym (append-nil items) ∙ ap (λ ns. items ++ ns) (sym (drop_all place numbers (omega (arith, past, led.many)))) ∙ so_far
