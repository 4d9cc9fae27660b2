-- What a counter group is asked to do in a cycle, and what it is then: a number and a balance latch. A total stands still, tests
-- its balance, turns a negative balance into its figure, shows and clears what it holds, or adds or subtracts a number.
use Rattle.std.specs.Prelude.{◌≡◌, ℕ, ◌+◌, ◌-◌, ◌*◌, ◌/◌, ◌%◌, ◌^◌, ◌≤◌, ◌<◌, ◌==◌, nat_le, Bool, true, false}
use Rattle.card_code.specs.Rows.{row_number}
use Rattle.card_code.specs.declared.row.Row.{Row as CardRow}
use Rattle.counters.specs.Counters.{Counter}
use Rattle.counters.specs.Numbers.{left_number, number}
use Rattle.counters.specs.declared.controls.Controls.{Controls}
use Rattle.hubs.specs.declared.hub.Group.{Group}
use Rattle.hubs.specs.declared.hub.Hub.{Hub}
use Rattle.hubs.specs.declared.hub.Hub.TheVariants.{GE, PL, MI, RO, BT}
use Rattle.net.specs.declared.cycle.Point.{Point}
use Rattle.net.specs.declared.cycle.Point.TheVariants as point

-- What is asked: nothing; a test of the balance; to read out into itself by minus, which turns a negative balance into its figure;
-- to read out, which clears; to add a number, or to subtract one.
pub data Act : Type 0 where
  Still : Act
  Test : Act
  Turn : Act
  Show : Act
  Plus : (number : ℕ) → Act
  Minus : (number : ℕ) → Act

-- controls by their four hubs
abbrev pub controls_with : (plus minus read_out test : Bool) → Controls
controls_with plus minus read_out test = record { plus = plus; minus = minus; read_out = read_out; test = test }

-- the controls that are impulsed for what is asked
abbrev pub act_controls : Act → Controls
act_controls Still = controls_with false false false false
act_controls Test = controls_with false false false true
act_controls Turn = controls_with false true true false
act_controls Show = controls_with false false true false
act_controls (Plus number) = controls_with true false false false
act_controls (Minus number) = controls_with false true false false

-- the digit of a number at a position; position 1 is the units
abbrev pub digit_of : (number position : ℕ) → ℕ
digit_of number position = number / 10 ^ (position - 1) % 10

-- At the rows 9 to 1 the entries of a group spell digits: the position is impulsed at the row of its digit alone, and at none for 0.
-- What comes at the rows 0, 11 and 12 enters nothing, so nothing is said of it.
abbrev pub Spells : Group → (ℕ → ℕ) → (Point → Hub → Bool) → Type 0
Spells name digit pictures =
    (row : CardRow) → 1 ≤ row_number row → row_number row ≤ 9 → (position : ℕ) → 1 ≤ position → position ≤ name.width
    → pictures (point.Row row) (GE name position) ≡ (digit position == row_number row)

-- what is to be entered for what is asked of a group that holds a number; without plus and minus it may be anything
abbrev pub Entered : Act → ℕ → Group → (Point → Hub → Bool) → Type 0
Entered Turn held name pictures = Spells name (digit_of held) pictures
Entered (Plus number) held name pictures = Spells name (digit_of number) pictures
Entered (Minus number) held name pictures = Spells name (digit_of number) pictures
Entered other held name pictures = Unit {0}

-- the control hubs of a group are impulsed at the control point as the controls say
pub record IsControlled (name : Group) (controls : Controls) (pictures : Point → Hub → Bool) : Type 0 where
  pub plus : pictures point.C (PL name) ≡ controls.plus
  pub minus : pictures point.C (MI name) ≡ controls.minus
  pub read_out : pictures point.C (RO name) ≡ controls.read_out
  pub test : pictures point.C (BT name) ≡ controls.test

-- By the pictures of a cycle's points this is asked of a group that holds a number.
pub record Asks (act : Act) (held : ℕ) (name : Group) (pictures : Point → Hub → Bool) : Type 0 where
  pub controls : IsControlled name (act_controls act) pictures
  pub entered : Entered act held name pictures

-- What a group holds: a number, and whether its balance latch is set.
pub record Held : Type 0 where
  pub number : ℕ
  pub latch : Bool

-- what a group holds: the number that its digits spell, and its balance latch
abbrev pub held_by : Counter → Held
held_by counter = record { number = number counter.digits; latch = counter.latch }

-- the number of a group after what was asked: `power` is ten to as many as it has positions
abbrev pub number_after : (is_ring : Bool) (power : ℕ) → Act → ℕ → ℕ
number_after is_ring power Still number = number
number_after is_ring power Test number = number
number_after is_ring power Turn number = left_number is_ring power (power - 1 - number)
number_after is_ring power Show number = 0
number_after is_ring power (Plus amount) number = left_number is_ring power (number + amount)
number_after is_ring power (Minus amount) number = left_number is_ring power (number + (power - 1 - amount))

-- The latch after what was asked: a test sets it where the top wheel stands at 9, and resets it elsewhere.
abbrev pub latch_after : (power : ℕ) → Act → Held → Bool
latch_after power Test held = nat_le (9 * power) (10 * held.number)
latch_after power other held = held.latch

-- what a group holds after what was asked
abbrev pub held_after : (is_ring : Bool) (width : ℕ) → Act → Held → Held
held_after is_ring width act held = record {
  number = number_after is_ring (10 ^ width) act held.number;
  latch = latch_after (10 ^ width) act held;
}

-- the numbers that are added or subtracted have no more digits than the group has positions
abbrev pub IsWithinGroup : ℕ → Act → Type 0
IsWithinGroup width (Plus number) = number < 10 ^ width
IsWithinGroup width (Minus number) = number < 10 ^ width
IsWithinGroup width other = Unit {0}
