-- A counter cycle as a number. The group stands for a number; what it starts from, what is added and what comes out
-- are numbers.
use Rattle.std.specs.Prelude.{ℕ, ◌+◌, ◌-◌, ◌*◌, ◌^◌, ◌%◌, Bool, nat_le, List, [], ◌∷◌, length, if◌then◌else◌}
use Rattle.counters.specs.declared.controls.Controls.{Controls}

-- the number that digits spell, from the top down
abbrev pub number : List ℕ → ℕ
number [] = 0
number (digit ∷ below) = digit * 10 ^ length below + number below

-- the number from which a group starts: 0 under read-out
abbrev pub start_number : Controls → ℕ → ℕ
start_number controls standing = if controls.read_out then 0 else standing

-- the number that is added: under plus the entered one, under minus what it lacks of all nines, else 0
abbrev pub added_number : Controls → ℕ → ℕ → ℕ
added_number controls power entered =
    if controls.minus then power - 1 - entered else if controls.plus then entered else 0

-- What a sum leaves in a group of positions with the given power of ten. Without a ring a carry that leaves the top
-- is lost; in a ring it comes in at the units.
abbrev pub left_number : Bool → ℕ → ℕ → ℕ
left_number is_ring power sum =
    if is_ring then (if nat_le power sum then sum - (power - 1) else sum) else sum % power
