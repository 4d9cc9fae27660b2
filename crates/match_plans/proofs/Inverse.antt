-- The wires that name a counter group, read off the wiring table: which total asks for them.
use Rattle.std.proofs.Common.{◌≡◌, ◌∙◌, refl, sym, subst, ℕ, ◌+◌, ◌≤◌, List, Some}
use Rattle.capacity.specs.declared.group.CounterGroup.{CounterGroup}
use Rattle.chart_lines.specs.ChartsWords.Field.{decimals_of}
use Rattle.chart_lines.specs.ChartsWords.Levels.{level_number}
use Rattle.chart_lines.specs.declared.charts.chart.Line.{Line}
use Rattle.chart_lines.specs.declared.charts.statement.Field.{Field}
use Rattle.chart_lines.specs.declared.charts.statement.Statement.{Statement}
use Rattle.chart_lines.specs.declared.charts.statement.TotalLine.{TotalLine}
use Rattle.chart_lines.specs.declared.charts.statement.Statement.TheVariants as says
use Rattle.hubs.specs.declared.hub.Group.{Group}
use Rattle.hubs.specs.declared.hub.Hub.{Hub}
use Rattle.hubs.specs.declared.hub.Hub.TheVariants.{CI, CO, GX, PX, RO, W}
use Rattle.chart_plans.specs.PlansWords.Plans.{Lists}
use Rattle.chart_plans.specs.declared.plans.counter.TotalCounter.TheVariants as of
use Rattle.wiring_table.specs.Figures.{IsAmount, digit_wheel}
use Rattle.wiring_table.specs.Parts.{ServesPosition, ServesTotal, counter_for, panel_group}
use Rattle.wiring_table.specs.Wires.{LineWire}
use Rattle.wiring_table.specs.Wires.LineWire.{carry_round, carry_up, detail_mark_out, read_out, ring, total_digit}
use Rattle.match_plans.proofs.Clashes.{apart, clash, is_carried, is_digit, is_program, is_side, side-is, to_read_out, to_wheel}

module _ (lines : List Line) (plan : Lists) where
  -- a total that puts the digit at the first place of a group on a wheel
  pub record DigitOf (number : ℕ) (statement : Statement) (group : Group) (v : ℕ) : Type 0 where
    pub asked : TotalLine
    pub field : Field
    pub position : ℕ
    pub says_total : statement ≡ says.TotalAmount asked
    pub served : ServesPosition lines plan number position group 1
    pub amount : IsAmount lines asked.name field
    pub from : 1 ≤ position
    pub to : position ≤ asked.digits
    pub at : digit_wheel asked.wheel asked.digits (decimals_of field.kind) position ≡ v

  pub digit-of : {number : ℕ} {statement : Statement} {exit entry : Hub} (group : Group) (v : ℕ)
      → LineWire lines plan number statement exit entry → exit ≡ GX group 1 → entry ≡ W v → DigitOf number statement group v
  digit-of {number} group v (total_digit total field its position place served amount from to) e f =
      let same_group : its ≡ group = cc in
      let same_place : place ≡ 1 = cc in
      let same_wheel : digit_wheel total.wheel total.digits (decimals_of field.kind) position ≡ v = cc in
      record {
        asked = total;
        field = field;
        position = position;
        says_total = refl;
        served = subst (λ p. ServesPosition lines plan number position group p) same_place
            (subst (λ g. ServesPosition lines plan number position g place) same_group served);
        amount = amount;
        from = from;
        to = to;
        at = same_wheel;
      }
  digit-of group v (detail_mark_out wheel name mark rule field pilot k row p0 p1 p2 p3) e f = clash is_side e (side-is rule pilot (2 + k)) refl
  digit-of group v other e f = apart (to_wheel is_digit) e f refl refl

  -- a total whose printing cycle reads a group out
  pub record ReadOutOf (number : ℕ) (statement : Statement) (cycle : ℕ) (group : Group) : Type 0 where
    pub asked : TotalLine
    pub says_total : statement ≡ says.TotalAmount asked
    pub served : ServesTotal lines plan number group
    pub at : level_number asked.level ≡ cycle

  pub read-out-of : {number : ℕ} {statement : Statement} {exit entry : Hub} (cycle : ℕ) (group : Group)
      → LineWire lines plan number statement exit entry → exit ≡ PX cycle 3 → entry ≡ RO group → ReadOutOf number statement cycle group
  read-out-of {number} cycle group (read_out total its served) e f =
      let same_group : its ≡ group = cc in
      let same_cycle : level_number total.level ≡ cycle = cc in
      record {
        asked = total;
        says_total = refl;
        served = subst (ServesTotal lines plan number) same_group served;
        at = same_cycle;
      }
  read-out-of cycle group other e f = apart (to_read_out is_program) e f refl refl

  -- how a carry leads from one group to another
  pub data CarryOf (number : ℕ) (from to : Group) : Type 0 where
    up : (lower upper : CounterGroup) → counter_for lines plan number ≡ Some (of.Coupled lower upper) → panel_group lower ≡ from
        → panel_group upper ≡ to → CarryOf number from to
    around : from ≡ to → CarryOf number from to
    round : (lower upper : CounterGroup) → counter_for lines plan number ≡ Some (of.Coupled lower upper) → panel_group upper ≡ from
        → panel_group lower ≡ to → CarryOf number from to

  pub carry-of : {number : ℕ} {statement : Statement} {exit entry : Hub} (from to : Group)
      → LineWire lines plan number statement exit entry → exit ≡ CO from → entry ≡ CI to → CarryOf number from to
  carry-of from to (carry_up total lower upper served) e f =
      let one : panel_group lower ≡ from = cc in
      let other : panel_group upper ≡ to = cc in
      up lower upper served one other
  carry-of from to (ring total rule group served signed) e f =
      let one : group ≡ from = cc in
      let other : group ≡ to = cc in
      around (sym one ∙ other)
  carry-of from to (carry_round total rule lower upper served signed) e f =
      let one : panel_group upper ≡ from = cc in
      let other : panel_group lower ≡ to = cc in
      round lower upper served one other
  carry-of from to other e f = clash is_carried (sym f) refl refl
