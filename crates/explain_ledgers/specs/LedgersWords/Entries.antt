-- What a cycle makes of a ledger. The movement of a number in the cycle is known behind the points of the cycle and before its end: then
-- it is known what its counter groups were asked and what they took, and nothing has turned yet.
use Rattle.std.specs.Prelude.{ℕ, ◌+◌, ◌*◌, ◌==◌, ◌&&◌, ◌||◌, not, Bool, false, List, [], ◌∷◌, ◌++◌, if◌then◌else◌}
use Rattle.counters.specs.Counters.{Counter, counter_ended, wheels_in}
use Rattle.counters.specs.Numbers.{number}
use Rattle.counters.specs.Wheels.{all_nines, carries_out}
use Rattle.counters.specs.declared.controls.Controls.{Controls}
use Rattle.net.specs.declared.cycle.Cycle.{Cycle}
use Rattle.explain_ledgers.specs.declared.ledgers.entry.Change.{Change}
use Rattle.explain_ledgers.specs.declared.ledgers.entry.Change.TheVariants.{Plus, Minus, Turned, Carry, Apart}
use Rattle.explain_ledgers.specs.declared.ledgers.entry.Entry.{Entry}
use Rattle.explain_ledgers.specs.declared.ledgers.entry.Movement.{Movement}

-- what happens to the number of one group
abbrev pub movement_of_one : Counter → Cycle → Movement
movement_of_one group cycle = record {
  read_out = group.controls.read_out;
  plus = group.controls.plus;
  minus = group.controls.minus;
  carry = group.carry;
  held = number group.digits;
  entered = number group.entered;
  after = number (counter_ended group cycle).digits;
  apart = false;
}

-- both or neither
abbrev pub same : Bool → Bool → Bool
same one other = if one then other else not other

-- two groups are under the same controls, but that each may test its balance or not
abbrev pub are_alike : Controls → Controls → Bool
are_alike upper lower = same upper.plus lower.plus && same upper.minus lower.minus && same upper.read_out lower.read_out

-- the power of ten of a group with so many positions, 3, 4, 6 or 8
abbrev pub power_of : ℕ → ℕ
power_of width = if width == 3 then 1000 else if width == 4 then 10000 else if width == 6 then 1000000 else 100000000

-- the number of two groups, of which the lower one has so many positions
abbrev pub joined : (upper lower width : ℕ) → ℕ
joined upper lower width = upper * power_of width + lower

-- a carry leaves the top of a group: as the wheels make it by themselves, or one came in at the units and all wheels stand at 9
abbrev pub carry_leaves : Counter → Bool
carry_leaves group = carries_out (wheels_in group) false || (group.carry && all_nines (wheels_in group))

-- two groups do the same thing, and the carry of the lower one comes in at the upper one
abbrev pub are_one : Counter → Counter → Bool
are_one upper lower = are_alike upper.controls lower.controls && same upper.carry (carry_leaves lower)

-- what happens to the number of two groups: of that number the lower one has the units
abbrev pub movement_of_both : Counter → Counter → Cycle → Movement
movement_of_both upper lower cycle = record {
  read_out = lower.controls.read_out;
  plus = lower.controls.plus;
  minus = lower.controls.minus;
  carry = lower.carry;
  held = joined (number upper.digits) (number lower.digits) lower.name.width;
  entered = joined (number upper.entered) (number lower.entered) lower.name.width;
  after = joined (number (counter_ended upper cycle).digits) (number (counter_ended lower cycle).digits) lower.name.width;
  apart = not (are_one upper lower);
}

-- a number is turned: it is read out, and what it reads out is subtracted from it
abbrev pub is_turned : Movement → Bool
is_turned moved = not moved.apart && moved.read_out && moved.minus && (moved.entered == moved.held)

-- a number is cleared: it is read out, and doesn't turn; so it begins at nothing
abbrev pub is_cleared : Movement → Bool
is_cleared moved = not moved.apart && moved.read_out && not (is_turned moved)

-- something comes to a number: it is under plus or minus, or a carry came in, or its groups didn't do the same thing
abbrev pub is_added : Movement → Bool
is_added moved = moved.apart || moved.plus || moved.minus || moved.carry

-- what a cycle does to a number: minus rules over plus
abbrev pub change_of : Movement → Change
change_of moved =
    if moved.apart then Apart
    else if is_turned moved then Turned else if moved.minus then Minus else if moved.plus then Plus else Carry

-- the entry of a cycle, by the number of the card that was read last, and of the cycles that were over
abbrev pub entry_of : Cycle → ℕ → ℕ → Movement → Entry
entry_of cycle card passed moved = record {
  cycle = cycle;
  card = card;
  passed = passed;
  before = if is_cleared moved then 0 else moved.held;
  change = change_of moved;
  entered = moved.entered;
  carry = moved.carry;
  after = moved.after;
}

-- what stays of a ledger: nothing if the number is cleared
abbrev pub entries_left : Movement → List Entry → List Entry
entries_left moved entries = if is_cleared moved then [] else entries

-- what a cycle adds: an entry if something comes to the number
abbrev pub entries_gained : Cycle → ℕ → ℕ → Movement → List Entry
entries_gained cycle card passed moved = if is_added moved then entry_of cycle card passed moved ∷ [] else []

-- a ledger behind a cycle
abbrev pub ledger_after : Cycle → ℕ → ℕ → Movement → List Entry → List Entry
ledger_after cycle card passed moved entries = entries_left moved entries ++ entries_gained cycle card passed moved
