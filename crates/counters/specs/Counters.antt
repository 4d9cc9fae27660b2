-- A counter group as a unit. Under read-out each position emits its digit, and the group then holds only what it
-- enters in that cycle. Under plus each wheel advances by the digit entered, under minus by what that digit lacks of
-- 9; minus rules over plus. Carries follow at the closing point: one that leaves the top is emitted at the carry exit, one at
-- the carry entry comes in at the units, under whatever controls, and while all wheels stand at 9 a contact leads from the carry
-- entry to the carry exit. Under balance test the latch tells whether the top wheel stands at 9 in the end.
use Rattle.std.specs.Prelude.{ℕ, ◌+◌, ◌-◌, ◌%◌, ◌==◌, ◌&&◌, ◌||◌, not, nat_le, nat_lt, Bool, false, List, [], ◌∷◌, length, replicate, if◌then◌else◌}
use Rattle.card_code.specs.Rows.{row_number}
use Rattle.hubs.specs.HubTable.Ranges.{is_within}
use Rattle.hubs.specs.declared.hub.Group.{Group}
use Rattle.hubs.specs.declared.hub.Hub.{Hub}
use Rattle.hubs.specs.declared.hub.Hub.TheVariants.{GX, CO, BAN, BAT, GE, PL, MI, RO, BT, CI}
use Rattle.net.specs.Cycles.{is_closing}
use Rattle.net.specs.HubSets.{is_hub}
use Rattle.net.specs.Panel.{unit_of}
use Rattle.net.specs.declared.cycle.Cycle.{Cycle}
use Rattle.net.specs.declared.cycle.Point.{Point}
use Rattle.net.specs.declared.cycle.Point.TheVariants.{C, Row, K}
use Rattle.counters.specs.Wheels.{Wheel, all_nines, carries_out, turned}
use Rattle.counters.specs.declared.controls.Controls.{Controls}

-- A counter group. Digits and entered digits are given by position, the top one first; the units are last. An entered
-- digit is 0 where nothing was entered. The controls are those of the cycle that runs, and so is the carry, which tells whether
-- one came in at the units.
pub record Counter : Type 0 where
  pub name : Group
  pub digits : List ℕ
  pub entered : List ℕ
  pub carry : Bool
  pub controls : Controls
  pub latch : Bool

-- no control is on
abbrev pub no_controls : Controls
no_controls = record { plus = false; minus = false; read_out = false; test = false }

-- the width of a group by its unit: eight groups each of 3, 4, 6 and 8 positions, in this order, are the units 3 to 34
abbrev pub width_of : ℕ → ℕ
width_of unit = if nat_lt unit 11 then 3 else if nat_lt unit 19 then 4 else if nat_lt unit 27 then 6 else 8

-- the group that is a unit, 3 to 34
abbrev pub group_of_unit : ℕ → Group
group_of_unit unit = record { width = width_of unit; number = (unit - 3) % 8 + 1 }

-- at the start all wheels stand at 0 and the latch is reset
abbrev pub counter_of : Group → Counter
counter_of name = record {
  name = name;
  digits = replicate name.width 0;
  entered = replicate name.width 0;
  carry = false;
  controls = no_controls;
  latch = false;
}

-- the group at the start, by its unit
abbrev pub counter_at_start : ℕ → Counter
counter_at_start unit = counter_of (group_of_unit unit)

-- the unit of a group
abbrev pub counter_number : Counter → ℕ
counter_number counter = unit_of counter.name

-- the exits of the positions whose digit is the given one, by the digits from the top down
abbrev pub shows : Group → ℕ → List ℕ → Hub → Bool
shows name given [] hub = false
shows name given (digit ∷ below) hub =
    ((digit == given) && is_hub (GX name (length below + 1)) hub) || shows name given below hub

-- the digit from which a wheel starts: 0 under read-out
abbrev pub base_of : Controls → ℕ → ℕ
base_of controls digit = if controls.read_out then 0 else digit

-- by how many steps a wheel advances for an entered digit: minus rules over plus
abbrev pub advance_of : Controls → ℕ → ℕ
advance_of controls entered = if controls.minus then 9 - entered else if controls.plus then entered else 0

-- a wheel, by its digit and what was entered
abbrev pub wheel_of : Controls → ℕ → ℕ → Wheel
wheel_of controls digit entered = record { base = base_of controls digit; advance = advance_of controls entered }

-- the wheels of a group, from the top down
abbrev pub wheels_of : Controls → List ℕ → List ℕ → List Wheel
wheels_of controls (digit ∷ digits) (entered ∷ others) =
    wheel_of controls digit entered ∷ wheels_of controls digits others
wheels_of controls digits entered = []

-- the wheels of a group in the cycle that runs, by what was entered so far
abbrev pub wheels_in : Counter → List Wheel
wheels_in counter = wheels_of counter.controls counter.digits counter.entered

-- Under read-out each position emits at the row of its digit, as it stood at the start of the cycle. At the closing point a
-- carry that leaves the top is emitted, as the wheels make it by themselves.
abbrev pub counter_emits : Counter → Cycle → Point → Hub → Bool
counter_emits counter cycle C hub = false
counter_emits counter cycle (Row row) hub =
    counter.controls.read_out && shows counter.name (row_number row) counter.digits hub
counter_emits counter cycle K hub = carries_out (wheels_in counter) false && is_hub (CO counter.name) hub

-- whether a balance position, 1 to 4, is one of the group's own
abbrev pub has_balance : Counter → Group → ℕ → Bool
has_balance counter group position = (unit_of group == counter_number counter) && is_within position 4

-- The contacts of the balance positions, at every point: the normal ones are closed while the latch is reset, the
-- transferred ones while it is set. And the contact from the carry entry to the carry exit, at the closing point: it is closed
-- where all wheels stand at 9.
abbrev pub counter_closes : Counter → Cycle → Point → Hub → Bool
counter_closes counter cycle point (BAN group position) = has_balance counter group position && not counter.latch
counter_closes counter cycle point (BAT group position) = has_balance counter group position && counter.latch
counter_closes counter cycle point (CO group) =
    is_closing point && ((unit_of group == counter_number counter) && all_nines (wheels_in counter))
counter_closes counter cycle point other = false

-- the controls that are impulsed
abbrev pub controls_of : Group → (Hub → Bool) → Controls
controls_of name picture = record {
  plus = picture (PL name);
  minus = picture (MI name);
  read_out = picture (RO name);
  test = picture (BT name);
}

-- whether digits are entered: under plus or minus, at the rows 9 to 1
abbrev pub takes : Controls → ℕ → Bool
takes controls row = (controls.plus || controls.minus) && (nat_le 1 row && nat_le row 9)

-- what is entered at a position after a row: the earliest row at which its entry is impulsed stays
abbrev pub taken : ℕ → Bool → ℕ → ℕ
taken row impulsed entered = if (entered == 0) && impulsed then row else entered

-- what is entered at all positions after a row, from the top down, where some positions are impulsed
abbrev pub all_taken : ℕ → (ℕ → Bool) → List ℕ → List ℕ
all_taken row impulsed [] = []
all_taken row impulsed (entered ∷ below) =
    taken row (impulsed (length below + 1)) entered ∷ all_taken row impulsed below

-- what is entered at all positions of a group after the point of a row
abbrev pub entered_after : Counter → ℕ → (Hub → Bool) → List ℕ
entered_after counter row picture =
    if takes counter.controls row
    then all_taken row (λ position. picture (GE counter.name position)) counter.entered
    else counter.entered

-- Sensing a picture: the control point sets the controls of the cycle, the rows enter digits, and at the closing point a carry
-- comes in where the carry entry is impulsed.
abbrev pub counter_sensed : Counter → Cycle → Point → (Hub → Bool) → Counter
counter_sensed counter cycle C picture = record counter { controls = controls_of counter.name picture }
counter_sensed counter cycle (Row row) picture =
    record counter { entered = entered_after counter (row_number row) picture }
counter_sensed counter cycle K picture = record counter { carry = picture (CI counter.name) }

-- the digits of a group at the end of a cycle
abbrev pub digits_ended : Counter → List ℕ
digits_ended counter = turned (wheels_in counter) counter.carry

-- whether the top wheel stands at 9
abbrev pub top_is_nine : List ℕ → Bool
top_is_nine [] = false
top_is_nine (digit ∷ below) = digit == 9

-- At the end of a cycle the wheels have turned, the latch is set or reset under balance test, and entries, the carry and
-- controls are forgotten.
abbrev pub counter_ended : Counter → Cycle → Counter
counter_ended counter cycle = record {
  name = counter.name;
  digits = digits_ended counter;
  entered = replicate counter.name.width 0;
  carry = false;
  controls = no_controls;
  latch = if counter.controls.test then top_is_nine (digits_ended counter) else counter.latch;
}
