-- On a panel that is wired for a chart the digits and the mark of a total's counter groups are wired to the wheels of the total alone.
use Rattle.std.proofs.Common.{◌≡◌, ◌∙◌, refl, sym, ap, subst, true≢false, ℕ, zero, suc, ◌+◌, ◌-◌, ◌<◌, ◌≤◌, ◌==◌, ◌||◌, ◌&&◌, nat_lt, ◌⊎◌, inl, inr, Bool, true, false, List, length, Option, Some, None, is_some, if◌then◌else◌, arith}
use Rattle.std.proofs.lemmas.Bool.{and_parts}
use Rattle.std.proofs.lemmas.Bool.Decides.{nat_tests}
use Rattle.std.proofs.lemmas.Option.{same_Some, slice_get_within}
use Rattle.chart_lines.proofs.ChartsWords.Rising.{one-line}
use Rattle.chart_lines.specs.ChartsWords.Chart.{Chart, NumbersRise}
use Rattle.chart_lines.specs.ChartsWords.Field.{decimals_of}
use Rattle.chart_lines.specs.declared.charts.chart.Line.{Line}
use Rattle.chart_lines.specs.declared.charts.statement.Field.{Field}
use Rattle.chart_lines.specs.declared.charts.statement.Mark.{Mark}
use Rattle.chart_lines.specs.declared.charts.statement.Mark.TheVariants as mark
use Rattle.chart_lines.specs.declared.charts.statement.SignRule.{SignRule}
use Rattle.chart_lines.specs.declared.charts.statement.SignRule.TheVariants as sign
use Rattle.chart_lines.specs.declared.charts.statement.Statement.{Statement}
use Rattle.chart_lines.specs.declared.charts.statement.Statement.TheVariants as says
use Rattle.chart_lines.specs.declared.charts.statement.TotalLine.{TotalLine}
use Rattle.counters.specs.Counters.{group_of_unit, width_of}
use Rattle.hubs.specs.declared.hub.Group.{Group}
use Rattle.hubs.specs.declared.hub.Hub.{Hub}
use Rattle.hubs.specs.declared.hub.Hub.TheVariants.{BAN, BAT, GX, W}
use Rattle.explain_ledgers.specs.declared.ledgers.account.Account.{Account}
use Rattle.explain_ledgers.specs.declared.ledgers.account.Account.TheVariants.{One, Coupled}
use Rattle.chart_line_rules.proofs.FieldRules.Places.{is_same_name-equal}
use Rattle.chart_line_rules.specs.FieldRules.Fields.{field_named}
use Rattle.chart_line_rules.specs.PrintRules.Items.{mark_width}
use Rattle.chart_plans.specs.PlansWords.Plans.{Lists}
use Rattle.chart_plans.specs.declared.plans.counter.TotalCounter.{TotalCounter}
use Rattle.hubs.proofs.SetupsWords.WiredLemmas.{HasWire-is_wired}
use Rattle.hubs.specs.SetupsWords.Wiring.{Wiring, HasWire, is_wired}
use Rattle.explain_wheel_ledgers.specs.Figures.{balance_to, digit_of, digit_to, has_digit, has_mark, is_own, mark_of, mark_to}
use Rattle.explain_wheel_ledgers.specs.Totals.{account_of, has_place}
use Rattle.proof_reports.specs.WiredPanels.Groups.{IsCounterOf}
use Rattle.proof_reports.specs.WiredPanels.Panel.{IsPanel}
use Rattle.wiring_table.proofs.Groups.{position-serves, serves-own, top-serves}
use Rattle.wiring_table.specs.Figures.{IsAmount, digit_wheel, mark_text, mark_wheel}
use Rattle.wiring_table.specs.Parts.{ServesTotal, negative_side}
use Rattle.wiring_table.specs.Wires.{ChartWire, LineWire}
use Rattle.wiring_table.specs.Wires.LineWire.{detail_mark_out, total_digit, total_mark_out}
use Rattle.proof_laws.proofs.LedgerAmounts.Found.{group-at}
use Rattle.proof_laws.proofs.LedgerAmounts.Groups.{found-place}
use Rattle.proof_laws.specs.LedgerAmounts.Figures.{IsOnTotal}

-- the group of an exit by which a total is printed
abbrev group_printed : Hub → Option Group
group_printed (GX group position) = Some group
group_printed (BAT group position) = Some group
group_printed (BAN group position) = Some group
group_printed other = None

-- a wire from such an exit to a wheel
abbrev prints : Hub → Hub → Bool
prints exit (W wheel) = is_some (group_printed exit)
prints exit other = false

no-print : {A : Type 0} {exit entry hub : Hub} {group : Group} {wheel : ℕ} → exit ≡ hub → entry ≡ W wheel → group_printed hub ≡ Some group
    → prints exit entry ≡ false → A
no-print {hub = hub} {wheel = wheel} from to printed none =
    absurd (true≢false (sym (ap (λ (o : Option Group). is_some o) printed)
    ∙ (λ i. prints (sym from i) (sym to i))
    ∙ none))

no-side : {A : Type 0} (rule : SignRule) (pilot position : ℕ) (hub : Hub) (group : Group) → negative_side rule pilot position ≡ hub
    → group_printed hub ≡ Some group → A
no-side (sign.X column) pilot position hub group from printed =
    let none : None ≡ Some group = ap group_printed from ∙ printed in cc
no-side (sign.NX column) pilot position hub group from printed =
    let none : None ≡ Some group = ap group_printed from ∙ printed in cc

-- A wheel of a total that a group serves, on a line of the chart with a number.
record PrintsTotal (lines : List Line) (plan : Lists) (number : ℕ) (statement : Statement) (group : Group) (wheel : ℕ) : Type 0 where
  asked : TotalLine
  field : Field
  says_total : statement ≡ says.TotalAmount asked
  served : ServesTotal lines plan number group
  named : field_named lines asked.name ≡ Some field
  on : IsOnTotal asked field wheel

-- the wheels of the digits and those of the mark are among them
digit-on : (asked : TotalLine) (field : Field) (position : ℕ) → 1 ≤ position → position ≤ asked.digits
    → IsOnTotal asked field (digit_wheel asked.wheel asked.digits (decimals_of field.kind) position)
digit-on asked field position from to = by asked.wheel asked.digits (decimals_of field.kind) (mark_width asked.mark) to
  where
    by : (wheel digits decimals marks : ℕ) → position ≤ digits
        → (wheel ≤ digit_wheel wheel digits decimals position)
        × (digit_wheel wheel digits decimals position < wheel + (digits + (if nat_lt 0 decimals then 1 else 0) + marks))
    by wheel digits decimals marks few = (grind (arith, nat_tests, from, few), grind (arith, nat_tests, from, few))

mark-long : (one : Mark) → length (mark_text one) ≡ mark_width (Some one)
mark-long mark.Credit = refl
mark-long mark.Minus = refl

mark-on : (asked : TotalLine) (field : Field) (one : Mark) (k : ℕ) → asked.mark ≡ Some one → k < length (mark_text one)
    → IsOnTotal asked field (mark_wheel asked.wheel asked.digits (decimals_of field.kind) + k)
mark-on asked field one k marked low =
    by asked.wheel asked.digits (if nat_lt 0 (decimals_of field.kind) then 1 else 0) (mark_width asked.mark)
    (subst (λ (n : ℕ). k < n) (mark-long one ∙ ap mark_width (sym marked)) low)
  where
    by : (wheel digits points marks : ℕ) → k < marks
        → (wheel ≤ wheel + digits + points + k) × (wheel + digits + points + k < wheel + (digits + points + marks))
    by wheel digits points marks few = (omega arith, omega (arith, few))

-- a wire from a digit or from a balance contact of a group to a wheel
prints-total : {lines : List Line} {plan : Lists} {number : ℕ} {statement : Statement} {exit entry : Hub} (hub : Hub) (group : Group) (wheel : ℕ)
    → group_printed hub ≡ Some group → LineWire lines plan number statement exit entry → exit ≡ hub → entry ≡ W wheel
    → PrintsTotal lines plan number statement group wheel
prints-total {lines} {plan} {number} hub group wheel printed (total_digit asked field its position place served amount low high) from to =
    let same_group : its ≡ group = same_Some its group (ap group_printed from ∙ printed) in
    let same_wheel : digit_wheel asked.wheel asked.digits (decimals_of field.kind) position ≡ wheel = cc in
    record {
      asked = asked;
      field = field;
      says_total = refl;
      served = subst (ServesTotal lines plan number) same_group (position-serves lines plan number position its place served);
      named = amount.named;
      on = subst (IsOnTotal asked field) same_wheel (digit-on asked field position low high);
    }
prints-total {lines} {plan} {number} hub group wheel printed (total_mark_out asked one rule field top k row marked served signed named punch) from to =
    let same_group : top ≡ group = same_Some top group (ap group_printed from ∙ printed) in
    let same_wheel : mark_wheel asked.wheel asked.digits (decimals_of field.kind) + k ≡ wheel = cc in
    record {
      asked = asked;
      field = field;
      says_total = refl;
      served = subst (ServesTotal lines plan number) same_group (top-serves lines plan number top served);
      named = named;
      on =
          subst (IsOnTotal asked field) same_wheel
          (mark-on asked field one k marked (slice_get_within (mark_text one) k punch.character punch.there));
    }
prints-total hub group wheel printed (detail_mark_out name_wheel name one rule field pilot k row signed named served punch) from to =
    no-side rule pilot (2 + k) hub group from printed
prints-total hub group wheel printed other from to = no-print from to printed refl

-- a digit that is wired is wired from a position
digit-wired : (wiring : Wiring) (group : Group) (wheel positions : ℕ) → digit_to wiring group wheel positions ≡ true
    → (position : ℕ) × HasWire wiring (GX group position) (W wheel)
unfolding digit_to
digit-wired wiring group wheel zero on = absurd (true≢false (sym on))
digit-wired wiring group wheel (suc positions) on =
    by (is_wired wiring (GX group (suc positions)) (W wheel)) refl on (digit-wired wiring group wheel positions)
  where
    by : (b : Bool) → is_wired wiring (GX group (suc positions)) (W wheel) ≡ b → (b || digit_to wiring group wheel positions) ≡ true
        → (digit_to wiring group wheel positions ≡ true → (position : ℕ) × HasWire wiring (GX group position) (W wheel))
        → (position : ℕ) × HasWire wiring (GX group position) (W wheel)
    by true is on rest = (suc positions, (HasWire-is_wired wiring (GX group (suc positions)) (W wheel)).0 is)
    by false is on rest = rest on

either : (a b : Bool) → (a || b) ≡ true → (a ≡ true) ⊎ (b ≡ true)
either true b on = inl refl
either false b on = inr on

-- An exit by which a group is printed is wired to a wheel.
record IsWiredTo (wiring : Wiring) (group : Group) (wheel : ℕ) : Type 0 where
  exit : Hub
  printed : group_printed exit ≡ Some group
  wired : HasWire wiring exit (W wheel)

digit-to : (wiring : Wiring) (group : Group) (wheel positions : ℕ) → digit_to wiring group wheel positions ≡ true
    → IsWiredTo wiring group wheel
digit-to wiring group wheel positions on =
    let found = digit-wired wiring group wheel positions on in
    record { exit = GX group found.0; printed = refl; wired = found.1 }

balance-to : (wiring : Wiring) (group : Group) (wheel position : ℕ) → balance_to wiring group wheel position ≡ true
    → IsWiredTo wiring group wheel
balance-to wiring group wheel position on = by (either (is_wired wiring (BAT group position) (W wheel)) _ on)
  where
    by : (is_wired wiring (BAT group position) (W wheel) ≡ true) ⊎ (is_wired wiring (BAN group position) (W wheel) ≡ true)
        → IsWiredTo wiring group wheel
    by (inl is) = record { exit = BAT group position; printed = refl; wired = (HasWire-is_wired wiring (BAT group position) (W wheel)).0 is }
    by (inr is) = record { exit = BAN group position; printed = refl; wired = (HasWire-is_wired wiring (BAN group position) (W wheel)).0 is }

mark-to : (wiring : Wiring) (group : Group) (wheel : ℕ) → mark_to wiring group wheel ≡ true → IsWiredTo wiring group wheel
mark-to wiring group wheel on =
    by (balance_to wiring group wheel 1) (balance_to wiring group wheel 2) (balance_to wiring group wheel 3) (balance_to wiring group wheel 4)
    (balance-to wiring group wheel 1) (balance-to wiring group wheel 2) (balance-to wiring group wheel 3) (balance-to wiring group wheel 4) on
  where
    by : (a b c d : Bool) → (a ≡ true → IsWiredTo wiring group wheel) → (b ≡ true → IsWiredTo wiring group wheel)
        → (c ≡ true → IsWiredTo wiring group wheel) → (d ≡ true → IsWiredTo wiring group wheel) → (a || b || c || d) ≡ true
        → IsWiredTo wiring group wheel
    by true b c d one two three four on = one refl
    by false true c d one two three four on = two refl
    by false false true d one two three four on = three refl
    by false false false true one two three four on = four refl
    by false false false false one two three four on = absurd (true≢false (sym on))

-- A digit or the mark of the group of some place of an account is wired to a wheel.
record HasWiredPlace (wiring : Wiring) (account : Account) (wheel : ℕ) : Type 0 where
  place : ℕ
  has : has_place account place ≡ true
  wired : IsWiredTo wiring (group_of_unit (3 + place)) wheel

same-place : (place : ℕ) → (place == place) ≡ true
same-place place = grind (arith, nat_tests)

lower-place : (upper lower : ℕ) → ((upper == lower) || (lower == lower)) ≡ true
lower-place upper lower = grind (arith, nat_tests)

upper-place : (upper lower : ℕ) → ((upper == upper) || (lower == upper)) ≡ true
upper-place upper lower = grind (arith, nat_tests)

digit-placed : (wiring : Wiring) (account : Account) (wheel : ℕ) → has_digit wiring account wheel ≡ true → HasWiredPlace wiring account wheel
digit-placed wiring (One place) wheel on = record {
  place = place;
  has = same-place place;
  wired = digit-to wiring (group_of_unit (3 + place)) wheel (width_of (3 + place)) on;
}
digit-placed wiring (Coupled upper lower) wheel on = by (either (digit_of wiring upper wheel) (digit_of wiring lower wheel) on)
  where
    by : (digit_of wiring upper wheel ≡ true) ⊎ (digit_of wiring lower wheel ≡ true) → HasWiredPlace wiring (Coupled upper lower) wheel
    by (inl is) = record {
      place = upper;
      has = upper-place upper lower;
      wired = digit-to wiring (group_of_unit (3 + upper)) wheel (width_of (3 + upper)) is;
    }
    by (inr is) = record {
      place = lower;
      has = lower-place upper lower;
      wired = digit-to wiring (group_of_unit (3 + lower)) wheel (width_of (3 + lower)) is;
    }

mark-placed : (wiring : Wiring) (account : Account) (wheel : ℕ) → has_mark wiring account wheel ≡ true → HasWiredPlace wiring account wheel
mark-placed wiring (One place) wheel on =
    record { place = place; has = same-place place; wired = mark-to wiring (group_of_unit (3 + place)) wheel on }
mark-placed wiring (Coupled upper lower) wheel on = by (either (mark_of wiring upper wheel) (mark_of wiring lower wheel) on)
  where
    by : (mark_of wiring upper wheel ≡ true) ⊎ (mark_of wiring lower wheel ≡ true) → HasWiredPlace wiring (Coupled upper lower) wheel
    by (inl is) =
        record { place = upper; has = upper-place upper lower; wired = mark-to wiring (group_of_unit (3 + upper)) wheel is }
    by (inr is) =
        record { place = lower; has = lower-place upper lower; wired = mark-to wiring (group_of_unit (3 + lower)) wheel is }

module _ (chart : Chart) (plan : Lists) (wiring : Wiring) (panel : IsPanel chart plan wiring) (rise : NumbersRise chart.lines chart.end)
    {name : List ℕ} {level : ℕ} {counter : TotalCounter} (field : Field) (amount : IsAmount chart.lines name field)
    (own : IsCounterOf chart.lines plan name level counter) (account : Account) (told : account_of counter ≡ Some account) where
  pub own-named : field_named chart.lines own.total.asked.name ≡ Some field
  own-named = ap (field_named chart.lines) (is_same_name-equal own.total.asked.name name own.total.same_name) ∙ amount.named

  placed-on : (wheel : ℕ) → HasWiredPlace wiring account wheel → IsOnTotal own.total.asked field wheel
  placed-on wheel it =
      let (group, within, placed) = group-at counter account it.place told it.has in
      let is_group : group_of_unit (3 + it.place) ≡ group = (found-place 32 it.place group placed).1 in
      let wire : ChartWire chart.lines plan it.wired.exit (W wheel) = (panel.wired.wires it.wired.exit (W wheel)).0 it.wired.wired in
      let total = prints-total it.wired.exit (group_of_unit (3 + it.place)) wheel it.wired.printed wire.wire refl refl in
      let number : wire.line.number ≡ own.number
      = serves-own chart.lines plan panel.planned wire.line.number own.number group
      (subst (ServesTotal chart.lines plan wire.line.number) is_group total.served)
      (record { counter = counter; there = own.served; has = within }) in
      let line : wire.line ≡ own.total.line
      = one-line chart.lines chart.end wire.line own.total.line rise wire.listed own.total.listed (number ∙ sym own.total.is_number) in
      let says_it : says.TotalAmount total.asked ≡ says.TotalAmount own.total.asked
      = sym total.says_total ∙ ap (λ (l : Line). l.statement) line ∙ own.total.says_total in
      let asked : total.asked ≡ own.total.asked = cc in
      let fields : total.field ≡ field
      = same_Some total.field field (sym total.named ∙ ap (λ (t : TotalLine). field_named chart.lines t.name) asked ∙ own-named) in
      subst (λ (f : Field). IsOnTotal own.total.asked f wheel) fields
      (subst (λ (t : TotalLine). IsOnTotal t total.field wheel) asked total.on)

  -- a wheel of the account's own is one of the total's
  pub own-on : (wheel : ℕ) → 1 ≤ wheel → is_own wiring account wheel ≡ true → IsOnTotal own.total.asked field wheel
  own-on wheel from on =
      by (has_digit wiring account wheel) (has_mark wiring account wheel) refl refl on
    where
      between : (has_digit wiring account (wheel - 1) && has_digit wiring account (wheel + 1)) ≡ true → IsOnTotal own.total.asked field wheel
      between both =
          let sides = and_parts (has_digit wiring account (wheel - 1)) (has_digit wiring account (wheel + 1)) both in
          let left = placed-on (wheel - 1) (digit-placed wiring account (wheel - 1) sides.0) in
          let right = placed-on (wheel + 1) (digit-placed wiring account (wheel + 1) sides.1) in
          let low = left.0 in
          let high = right.1 in
          (omega (arith, low), omega (arith, high))

      by : (a b : Bool) → has_digit wiring account wheel ≡ a → has_mark wiring account wheel ≡ b
          → (a || b || (has_digit wiring account (wheel - 1) && has_digit wiring account (wheel + 1))) ≡ true
          → IsOnTotal own.total.asked field wheel
      by true b digit mark on = placed-on wheel (digit-placed wiring account wheel digit)
      by false true digit mark on = placed-on wheel (mark-placed wiring account wheel mark)
      by false false digit mark on = between on
