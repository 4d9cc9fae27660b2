-- The wheel of a digit of an amount: each position has its own, and it is one of the amount's wheels.
use Rattle.std.proofs.Common.{◌≡◌, refl, ℕ, ◌+◌, ◌-◌, ◌<◌, ◌≤◌, nat_lt, Bool, true, false, arith, if◌then◌else◌}
use Rattle.std.proofs.lemmas.Bool.Decides.{nat_tests}
use Rattle.wiring_table.specs.Figures.{digit_wheel}

-- a digit stands before the point or after it
data Side (wheel digits decimals position : ℕ) : Type 0 where
  before : decimals < position → digit_wheel wheel digits decimals position ≡ wheel + digits - position → Side wheel digits decimals position
  after : position ≤ decimals → digit_wheel wheel digits decimals position ≡ wheel + digits + 1 - position → Side wheel digits decimals position

side : (wheel digits decimals position : ℕ) → Side wheel digits decimals position
side wheel digits decimals position = by (nat_lt decimals position) refl
  where
    by : (b : Bool) → nat_lt decimals position ≡ b → Side wheel digits decimals position
    by true is = before (grind (arith, nat_tests, is)) (rw is refl)
    by false is = after (grind (arith, nat_tests, is)) (rw is refl)

pub own-position : (wheel digits decimals one other : ℕ) → 1 ≤ one → one ≤ digits → 1 ≤ other → other ≤ digits
    → digit_wheel wheel digits decimals one ≡ digit_wheel wheel digits decimals other → one ≡ other
own-position wheel digits decimals one other from to from_too to_too same =
    by (side wheel digits decimals one) (side wheel digits decimals other)
  where
    by : Side wheel digits decimals one → Side wheel digits decimals other → one ≡ other
    by (before less e) (before less_too f) = omega (arith, from, to, from_too, to_too, same, e, f)
    by (after most e) (after most_too f) = omega (arith, from, to, from_too, to_too, same, e, f)
    by (before less e) (after most f) = omega (arith, from, to, from_too, to_too, same, e, f, less, most)
    by (after most e) (before less f) = omega (arith, from, to, from_too, to_too, same, e, f, less, most)

pub on-wheels : (wheel digits decimals position : ℕ) → 1 ≤ position → position ≤ digits
    → (wheel ≤ digit_wheel wheel digits decimals position)
    × (digit_wheel wheel digits decimals position < wheel + (digits + (if nat_lt 0 decimals then 1 else 0)))
on-wheels wheel digits decimals position from to = by (side wheel digits decimals position) (nat_lt 0 decimals) refl
  where
    by : Side wheel digits decimals position → (b : Bool) → nat_lt 0 decimals ≡ b
        → (wheel ≤ digit_wheel wheel digits decimals position)
        × (digit_wheel wheel digits decimals position < wheel + (digits + (if b then 1 else 0)))
    by (before less e) true is = (omega (arith, from, to, e), omega (arith, from, to, e))
    by (before less e) false is = (omega (arith, from, to, e), omega (arith, from, to, e))
    by (after most e) true is = (omega (arith, from, to, e), omega (arith, from, to, e))
    by (after most e) false is =
        let none : decimals ≤ 0 = grind (arith, nat_tests, is) in
        absurd (omega (arith, from, most, none))
