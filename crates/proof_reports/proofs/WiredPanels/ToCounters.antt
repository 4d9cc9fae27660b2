-- The wires to the entries of counter groups, each with the total that it serves, and what tells of a cycle at their other ends.
use Rattle.std.proofs.Common.{◌≡◌, refl, ℕ, ◌+◌, ◌-◌, ◌≤◌, List, Contains, Some}
use Rattle.wiring_table.specs.Below.chart_plans.PlansWords.Plans.{Lists}
use Rattle.wiring_table.specs.Below.chart_lines.ChartsWords.Field.{columns_of}
use Rattle.wiring_table.specs.Below.chart_lines.ChartsWords.Levels.{level_number}
use Rattle.wiring_table.specs.Below.chart_lines.declared.charts.chart.Line.{Line}
use Rattle.wiring_table.specs.Below.chart_lines.declared.charts.statement.Field.{Field}
use Rattle.wiring_table.specs.Below.chart_lines.declared.charts.statement.SignRule.{SignRule}
use Rattle.wiring_table.specs.Below.chart_lines.declared.charts.statement.Statement.{Statement}
use Rattle.wiring_table.specs.Below.chart_lines.declared.charts.statement.Statement.TheVariants as says
use Rattle.wiring_table.specs.Below.chart_lines.declared.charts.statement.TotalLine.{TotalLine}
use Rattle.proof_cycles.specs.Below.hubs.declared.hub.Group.{Group}
use Rattle.proof_cycles.specs.Below.hubs.declared.hub.Hub.{Hub}
use Rattle.proof_cycles.specs.Below.hubs.declared.hub.Hub.TheVariants.{SR, GX, BAN, BAT, CC, PX, EM, GE, PL, MI, RO, BT, BAC, PIC}
use Rattle.wiring_table.specs.Figures.{IsAmount, IsSigned, IsUnsigned}
use Rattle.wiring_table.specs.Parts.{HasTotal, IsLowest, IsNextHigher, ServesPosition, ServesTotal, pilot_for, negative_side, positive_side, top_for}
use Rattle.wiring_table.proofs.Groups.{position-serves}
use Rattle.wiring_table.specs.Wires.{LineWire}
use Rattle.wiring_table.specs.Wires.LineWire.{detail_mark_in, entry, entry_adds, entry_sign, entry_plus, entry_minus, read_out, balance_test, conversion, conversion_read_out, conversion_minus, feedback, total_mark_in, transfer, transfer_adds, transfer_sign, transfer_plus, transfer_minus}
use Rattle.proof_reports.specs.WiredPanels.Groups.{IsGroupOf, IsPlaceFor, IsTopOf}
use Rattle.wiring_table.proofs.Below.chart_line_rules.FieldRules.Places.{is_same_name-own}

-- the total that a line says
pub the_total :
    (lines : List Line) (line : Line) (total : TotalLine) (number : ℕ) → Contains lines line → line.number ≡ number
    → line.statement ≡ says.TotalAmount total → HasTotal lines total.name (level_number total.level) number
the_total lines line total number listed numbered says_it = record {
  line = line;
  listed = listed;
  is_number = numbered;
  asked = total;
  says_total = says_it;
  same_level = refl;
  same_name = is_same_name-own total.name;
}

-- a line of the chart with a number and what it says
pub record IsLine (lines : List Line) (number : ℕ) (statement : Statement) : Type 0 where
  pub line : Line
  pub listed : Contains lines line
  pub numbered : line.number ≡ number
  pub says_it : line.statement ≡ statement

-- a line as itself
pub itself : (lines : List Line) (line : Line) → Contains lines line → IsLine lines line.number line.statement
itself lines line listed = record { line = line; listed = listed; numbered = refl; says_it = refl }

module _ (lines : List Line) (plan : Lists) where
  -- the total on a line, and its groups, the top one, and its places
  pub on_line : (total : TotalLine) (number : ℕ) → IsLine lines number (says.TotalAmount total)
      → HasTotal lines total.name (level_number total.level) number
  on_line total number at = the_total lines at.line total number at.listed at.numbered at.says_it

  pub with_group : (total : TotalLine) (number : ℕ) (group : Group) → IsLine lines number (says.TotalAmount total)
      → ServesTotal lines plan number group → IsGroupOf lines plan total.name (level_number total.level) group
  with_group asked number group at served =
      record { number = number; total = on_line asked number at; served = served }

  pub with_top : (total : TotalLine) (number : ℕ) (top : Group) → IsLine lines number (says.TotalAmount total)
      → top_for lines plan number ≡ Some top → IsTopOf lines plan total.name (level_number total.level) top
  with_top asked number top at served =
      record { number = number; total = on_line asked number at; served = served }

  pub with_place : (total : TotalLine) (number position : ℕ) (group : Group) (place : ℕ)
      → IsLine lines number (says.TotalAmount total) → ServesPosition lines plan number position group place
      → IsPlaceFor lines plan total.name (level_number total.level) position group place
  with_place asked number position group place at served =
      record { number = number; total = on_line asked number at; served = served }

  -- A group serves the next higher total of an amount above a level.
  pub record GoesUp (name : List ℕ) (low : ℕ) (upper : Group) : Type 0 where
    pub lower_number : ℕ
    pub lower_total : HasTotal lines name low lower_number
    pub number : ℕ
    pub next : IsNextHigher lines name low number
    pub served : ServesTotal lines plan number upper

  -- the exits that are wired to the plus entry of a group
  pub data ToPlus (group : Group) : Hub → Type 0 where
    from_card : (name : List ℕ) (level : ℕ) → IsGroupOf lines plan name level group → IsLowest lines name level → IsUnsigned lines name
        → ToPlus group CC
    by_sign : (name : List ℕ) (level : ℕ) (rule : SignRule) (pilot : ℕ) → IsGroupOf lines plan name level group
        → IsLowest lines name level → IsSigned lines name rule → pilot_for plan name ≡ Some pilot
        → ToPlus group (positive_side rule pilot 1)
    up : (name : List ℕ) (low : ℕ) → GoesUp name low group → IsUnsigned lines name → ToPlus group (PX low 3)
    up_by_latch : (name : List ℕ) (low : ℕ) (rule : SignRule) (lower : Group) → GoesUp name low group → IsSigned lines name rule
        → IsTopOf lines plan name low lower → ToPlus group (BAN lower 2)

  -- and those wired to its minus entry
  pub data ToMinus (group : Group) : Hub → Type 0 where
    by_sign : (name : List ℕ) (level : ℕ) (rule : SignRule) (pilot : ℕ) → IsGroupOf lines plan name level group
        → IsLowest lines name level → IsSigned lines name rule → pilot_for plan name ≡ Some pilot
        → ToMinus group (negative_side rule pilot 1)
    turned : (name : List ℕ) (level : ℕ) (rule : SignRule) (top : Group) → IsGroupOf lines plan name level group
        → IsTopOf lines plan name level top → IsSigned lines name rule → ToMinus group (BAT top 1)
    up_by_latch : (name : List ℕ) (low : ℕ) (rule : SignRule) (lower : Group) → GoesUp name low group → IsSigned lines name rule
        → IsTopOf lines plan name low lower → ToMinus group (BAT lower 2)

  -- to its read-out entry
  pub data ToReadOut (group : Group) : Hub → Type 0 where
    shown : (name : List ℕ) (level : ℕ) → IsGroupOf lines plan name level group → ToReadOut group (PX level 3)
    turned : (name : List ℕ) (level : ℕ) (rule : SignRule) (top : Group) → IsGroupOf lines plan name level group
        → IsTopOf lines plan name level top → IsSigned lines name rule → ToReadOut group (BAT top 1)

  -- to its balance test
  pub data ToTest (group : Group) : Hub → Type 0 where
    tested : (name : List ℕ) (level : ℕ) (rule : SignRule) → IsTopOf lines plan name level group → IsSigned lines name rule
        → ToTest group (PX level 1)

  -- to the common hubs of its balance positions, but for those of its mark
  pub data ToBalance (group : Group) : ℕ → Hub → Type 0 where
    turned : (name : List ℕ) (level : ℕ) (rule : SignRule) → IsTopOf lines plan name level group → IsSigned lines name rule
        → ToBalance group 1 (PX level 2)
    up : (name : List ℕ) (level : ℕ) (rule : SignRule) → IsTopOf lines plan name level group → IsSigned lines name rule
        → ToBalance group 2 (PX level 3)
    marks : (emitter row position : ℕ) → ToBalance group position (EM emitter row)

  -- to the common hubs of a pilot
  pub data ToPilot : ℕ → ℕ → Hub → Type 0 where
    signs : (pilot : ℕ) → ToPilot pilot 1 CC
    marks : (emitter row pilot position : ℕ) → ToPilot pilot position (EM emitter row)

  -- to the entry of a place
  pub data ToEntry (group : Group) (place : ℕ) : Hub → Type 0 where
    card : (name : List ℕ) (level : ℕ) (field : Field) (position : ℕ) → IsPlaceFor lines plan name level position group place
        → IsLowest lines name level → IsAmount lines name field → 1 ≤ position → position ≤ columns_of field
        → ToEntry group place (SR (field.last + 1 - position))
    from_itself : (name : List ℕ) (level : ℕ) (rule : SignRule) → IsGroupOf lines plan name level group → IsSigned lines name rule
        → 1 ≤ place → place ≤ group.width → ToEntry group place (GX group place)
    lower : (name : List ℕ) (low position : ℕ) (lower : Group) (lower_place : ℕ) → (up : GoesUp name low group)
        → ServesPosition lines plan up.number position group place
        → ServesPosition lines plan up.lower_number position lower lower_place
        → 1 ≤ position → position ≤ up.lower_total.asked.digits → ToEntry group place (GX lower lower_place)

  pub to_plus : (number : ℕ) {statement : Statement} {x : Hub} {group : Group} → IsLine lines number statement
      → LineWire lines plan number statement x (PL group) → ToPlus group x
  to_plus number at (entry_adds total group low is unsigned) =
      from_card total.name (level_number total.level) (with_group total number group at is) low unsigned
  to_plus number at (entry_plus total rule pilot group low is signed served) =
      by_sign total.name (level_number total.level) rule pilot (with_group total number group at is) low signed served
  to_plus number at (transfer_adds total upper other unsigned next served) =
      up total.name (level_number total.level) (record {
        lower_number = number;
        lower_total = on_line total number at;
        number = other;
        next = next;
        served = served;
      }) unsigned
  to_plus number at (transfer_plus total rule top upper other is signed next served) =
      up_by_latch total.name (level_number total.level) rule top (record {
        lower_number = number;
        lower_total = on_line total number at;
        number = other;
        next = next;
        served = served;
      }) signed (with_top total number top at is)

  pub to_minus : (number : ℕ) {statement : Statement} {x : Hub} {group : Group} → IsLine lines number statement
      → LineWire lines plan number statement x (MI group) → ToMinus group x
  to_minus number at (entry_minus total rule pilot group low is signed served) =
      by_sign total.name (level_number total.level) rule pilot (with_group total number group at is) low signed served
  to_minus number at (conversion_minus total rule top group is serves signed) =
      turned total.name (level_number total.level) rule top (with_group total number group at serves)
      (with_top total number top at is) signed
  to_minus number at (transfer_minus total rule top upper other is signed next served) =
      up_by_latch total.name (level_number total.level) rule top (record {
        lower_number = number;
        lower_total = on_line total number at;
        number = other;
        next = next;
        served = served;
      }) signed (with_top total number top at is)

  pub to_read_out : (number : ℕ) {statement : Statement} {x : Hub} {group : Group} → IsLine lines number statement
      → LineWire lines plan number statement x (RO group) → ToReadOut group x
  to_read_out number at (read_out total group is) =
      shown total.name (level_number total.level) (with_group total number group at is)
  to_read_out number at (conversion_read_out total rule top group is serves signed) =
      turned total.name (level_number total.level) rule top (with_group total number group at serves)
      (with_top total number top at is) signed

  pub to_test : (number : ℕ) {statement : Statement} {x : Hub} {group : Group} → IsLine lines number statement
      → LineWire lines plan number statement x (BT group) → ToTest group x
  to_test number at (balance_test total rule group is signed) =
      tested total.name (level_number total.level) rule (with_top total number group at is) signed

  pub to_balance : (number : ℕ) {statement : Statement} {x : Hub} {group : Group} {position : ℕ} → IsLine lines number statement
      → LineWire lines plan number statement x (BAC group position) → ToBalance group position x
  to_balance number at (conversion total rule group is signed) =
      turned total.name (level_number total.level) rule (with_top total number group at is) signed
  to_balance number at (transfer_sign total rule group other is signed next) =
      up total.name (level_number total.level) rule (with_top total number group at is) signed
  to_balance number at (total_mark_in total mark rule group k row marked is signed punched) = marks _ row _

  pub to_pilot : (number : ℕ) {statement : Statement} {x : Hub} {pilot position : ℕ} → IsLine lines number statement
      → LineWire lines plan number statement x (PIC pilot position) → ToPilot pilot position x
  to_pilot number at (entry_sign total rule pilot low signed served) = signs pilot
  to_pilot number at (detail_mark_in wheel name mark rule pilot k row signed served punched) = marks _ row pilot _

  pub to_entry : (number : ℕ) {statement : Statement} {x : Hub} {group : Group} {place : ℕ} → IsLine lines number statement
      → LineWire lines plan number statement x (GE group place) → ToEntry group place x
  unfolding on_line the_total
  to_entry number at (entry total field group position place low serves amount from to) =
      card total.name (level_number total.level) field position (with_place total number position group place at serves) low
      amount from to
  to_entry number at (feedback total rule group place is signed from to) =
      from_itself total.name (level_number total.level) rule (with_group total number group at is) signed from to
  to_entry number at (transfer total group upper other position place upper_place serves next serves_upper from to) =
      lower total.name (level_number total.level) position group place (record {
        lower_number = number;
        lower_total = on_line total number at;
        number = other;
        next = next;
        served = position-serves lines plan other position upper upper_place serves_upper;
      }) serves_upper serves from to
