-- The wheels of a counter in a cycle, and their carry. A wheel starts from a digit and advances by so many steps. One
-- that passes from 9 to 0 carries a step to the wheel above it, and one that stands at 9 passes on the step that it
-- gets from below.
use Rattle.std.specs.Prelude.{ℕ, ◌+◌, ◌%◌, ◌==◌, ◌&&◌, ◌||◌, nat_le, Bool, true, false, List, [], ◌∷◌, if◌then◌else◌}

-- A wheel: the digit from which it starts, and by how many steps it advances, before any carry.
pub record Wheel : Type 0 where
  pub base : ℕ
  pub advance : ℕ

-- whether a wheel passes from 9 to 0 by its own advance
abbrev pub passes : Wheel → Bool
passes wheel = nat_le 10 (wheel.base + wheel.advance)

-- the digit at which a wheel stands after its own advance, before any carry
abbrev pub stands : Wheel → ℕ
stands wheel = (wheel.base + wheel.advance) % 10

-- the digit of a wheel in the end: one more step where the carry reaches it
abbrev pub stepped : Wheel → Bool → ℕ
stepped wheel carry = if carry then (stands wheel + 1) % 10 else stands wheel

-- Whether a carry leaves the top of the wheels, given from the top down, where one comes in at the lowest or not.
abbrev pub carries_out : List Wheel → Bool → Bool
carries_out [] carry = carry
carries_out (wheel ∷ below) carry = passes wheel || ((stands wheel == 9) && carries_out below carry)

-- Whether all wheels stand at 9 after their own advance, before any carry: a carry that comes in at the lowest then leaves the
-- top.
abbrev pub all_nines : List Wheel → Bool
all_nines [] = true
all_nines (wheel ∷ below) = (stands wheel == 9) && all_nines below

-- the digits of the wheels in the end, where a carry comes in at the lowest or not
abbrev pub turned : List Wheel → Bool → List ℕ
turned [] carry = []
turned (wheel ∷ below) carry = stepped wheel (carries_out below carry) ∷ turned below carry

-- The carry that comes in at the lowest wheel: where the wheels form a ring, the one that leaves the top; else none.
abbrev pub carries_in : Bool → List Wheel → Bool
carries_in is_ring wheels = is_ring && carries_out wheels false

-- the digits of the wheels in the end, in a ring or where nothing comes in
abbrev pub turned_round : Bool → List Wheel → List ℕ
turned_round is_ring wheels = turned wheels (carries_in is_ring wheels)
