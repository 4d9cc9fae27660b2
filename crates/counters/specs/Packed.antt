-- Wheels as the bytes of a word, from the units on. A byte is what its wheel starts from and advances by, the carry that comes to it, and
-- 246 more: so a wheel that carries is a byte that passes 255.
use Rattle.std.specs.Prelude.{ℕ, ◌+◌, ◌%◌, ◌==◌, ◌&&◌, ◌||◌, Bool, List, [], ◌∷◌}
use Rattle.counters.specs.Laws.{carry_number}
use Rattle.counters.specs.Wheels.{Wheel, passes, stands, stepped}

-- what a wheel starts from and advances by
abbrev pub wheel_sum : Wheel → ℕ
wheel_sum wheel = wheel.base + wheel.advance

-- whether a wheel carries a step to the next one: it passes from 9 to 0 by itself, or stands at 9 and gets a step
abbrev pub carries_on : Wheel → Bool → Bool
carries_on wheel carry = passes wheel || ((stands wheel == 9) && carry)

-- the carry that leaves the top of the wheels, given from the units on
abbrev pub carries_up : List Wheel → Bool → Bool
carries_up [] carry = carry
carries_up (wheel ∷ above) carry = carries_up above (carries_on wheel carry)

-- the digits of the wheels in the end, both from the units on
abbrev pub turned_up : List Wheel → Bool → List ℕ
turned_up [] carry = []
turned_up (wheel ∷ above) carry = stepped wheel carry ∷ turned_up above (carries_on wheel carry)

-- the bytes of the wheels in the end, both from the units on
abbrev pub raised_up : List Wheel → Bool → List ℕ
raised_up [] carry = []
raised_up (wheel ∷ above) carry =
    (wheel_sum wheel + 246 + carry_number carry) % 256 ∷ raised_up above (carries_on wheel carry)
