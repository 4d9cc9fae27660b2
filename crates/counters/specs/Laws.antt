-- What can be said of every counter group: it keeps its shape, its cycles are sums, and two groups through which one carry goes
-- are one counter.
use Rattle.std.specs.Prelude.{◌≡◌, ℕ, ◌+◌, ◌*◌, ◌^◌, ◌≤◌, Bool, true, List, All, ◌++◌, length, map, if◌then◌else◌}
use Rattle.hubs.specs.HubTable.Places.{is_width}
use Rattle.hubs.specs.HubTable.Ranges.{is_within}
use Rattle.hubs.specs.declared.hub.Hub.{Hub}
use Rattle.net.specs.declared.cycle.Cycle.{Cycle}
use Rattle.net.specs.declared.cycle.Point.{Point}
use Rattle.counters.specs.Counters.{Counter, counter_at_start, counter_ended, counter_number, counter_sensed, wheels_in}
use Rattle.counters.specs.Numbers.{number, start_number, added_number, left_number}
use Rattle.counters.specs.Wheels.{Wheel, carries_in, carries_out, turned}

-- a digit is 0 to 9
abbrev pub IsDigit : ℕ → Type 0
IsDigit digit = digit ≤ 9

-- a group of the panel, with a digit and an entered digit for each of its positions
pub record IsCounter (counter : Counter) : Type 0 where
  pub width : is_width counter.name.width ≡ true
  pub named : is_within counter.name.number 8 ≡ true
  pub positions : length counter.digits ≡ counter.name.width
  pub entries : length counter.entered ≡ counter.name.width
  pub digits : All IsDigit counter.digits
  pub entered : All IsDigit counter.entered

-- A group begins as one, and stays one whatever it senses.
pub record CountersStay : Type 0 where
  pub start : (unit : ℕ) → 3 ≤ unit → unit ≤ 34 → IsCounter (counter_at_start unit)
  pub sensed :
      (counter : Counter) (cycle : Cycle) (point : Point) (picture : Hub → Bool)
      → IsCounter counter → IsCounter (counter_sensed counter cycle point picture)
  pub ended : (counter : Counter) (cycle : Cycle) → IsCounter counter → IsCounter (counter_ended counter cycle)

-- A group begins with the number of its unit.
abbrev pub GroupsAreNumbered : Type 0
GroupsAreNumbered = (unit : ℕ) → 3 ≤ unit → unit ≤ 34 → counter_number (counter_at_start unit) ≡ unit

-- a carry as a number
abbrev pub carry_number : Bool → ℕ
carry_number carry = if carry then 1 else 0

-- A cycle of a group is a sum: the number at its end, and the carry that leaves the top, are what the group starts from, what is
-- added, and the carry that came in at the units.
abbrev pub CyclesAreSums : Type 0
CyclesAreSums =
    (counter : Counter) (cycle : Cycle)
    → IsCounter counter
    → let power = 10 ^ counter.name.width in
    number (counter_ended counter cycle).digits + carry_number (carries_out (wheels_in counter) counter.carry) * power
    ≡ start_number counter.controls (number counter.digits)
    + added_number counter.controls power (number counter.entered)
    + carry_number counter.carry

-- Where the carry that came in is that of a ring, or none without one, the number at the end is what is left of the sum.
abbrev pub SumsAreLeft : Type 0
SumsAreLeft =
    (is_ring : Bool) (counter : Counter) (cycle : Cycle)
    → IsCounter counter
    → counter.carry ≡ carries_in is_ring (wheels_in counter)
    → let power = 10 ^ counter.name.width in
    number (counter_ended counter cycle).digits
    ≡ left_number is_ring power
    (start_number counter.controls (number counter.digits)
    + added_number counter.controls power (number counter.entered))

-- One carry goes through two groups: what leaves the lower one comes in at the upper one, and in a ring what leaves that comes in
-- at the lower one again. They are under the same controls, but that each may test its balance or not.
pub record AreCoupled (is_ring : Bool) (upper lower : Counter) : Type 0 where
  pub controls : upper.controls ≡ record lower.controls { test = upper.controls.test }
  pub into_lower : lower.carry ≡ carries_in is_ring (wheels_in upper ++ wheels_in lower)
  pub into_upper : upper.carry ≡ carries_out (wheels_in lower) lower.carry

-- the number of two groups as one, by their digits: those of the upper one stand above those of the lower one
abbrev pub number_of_both : List ℕ → List ℕ → ℕ
number_of_both upper lower = number upper * 10 ^ length lower + number lower

-- Two coupled groups are one counter, of as many positions as both have.
abbrev pub PairsAreCounters : Type 0
PairsAreCounters =
    (is_ring : Bool) (upper lower : Counter) (cycle : Cycle)
    → IsCounter upper
    → IsCounter lower
    → AreCoupled is_ring upper lower
    → let power = 10 ^ (upper.name.width + lower.name.width) in
    number_of_both (counter_ended upper cycle).digits (counter_ended lower cycle).digits
    ≡ left_number is_ring power
    (start_number lower.controls (number_of_both upper.digits lower.digits)
    + added_number lower.controls power (number_of_both upper.entered lower.entered))

-- a wheel starts from a digit and advances by a digit
abbrev pub IsWheel : Wheel → Type 0
IsWheel wheel = (wheel.base ≤ 9) × (wheel.advance ≤ 9)

-- Turning is adding: what the wheels spell in the end, and the carry that leaves the top, are the sum of what they
-- spelt, what their advances spell, and the carry that came in at the lowest.
abbrev pub TurningIsAdding : Type 0
TurningIsAdding =
    (wheels : List Wheel) (carry : Bool)
    → All IsWheel wheels
    → number (turned wheels carry) + carry_number (carries_out wheels carry) * 10 ^ length wheels
    ≡ number (map (λ wheel. wheel.base) wheels) + number (map (λ wheel. wheel.advance) wheels) + carry_number carry
