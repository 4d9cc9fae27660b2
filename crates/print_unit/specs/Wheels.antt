-- The print wheels, unit 43. In every cycle a wheel collects the rows at whose points its hub is impulsed. At the end of
-- the cycle the line is made of that, and the wheels forget it. They emit nothing and have no contacts.
use Rattle.std.specs.Prelude.{ℕ, ◌+◌, Bool, false, ◌||◌, List, [], ◌∷◌, map, replicate, slice_set, slice_index_or}
use Rattle.std.specs.List.{range_with_len}
use Rattle.card_code.specs.Rows.{passing_place}
use Rattle.card_code.specs.declared.row.Row.{Row as CardRow}
use Rattle.hubs.specs.SetupsWords.Wiring.{Wiring, is_plugged}
use Rattle.hubs.specs.declared.hub.Hub.{Hub}
use Rattle.hubs.specs.declared.hub.Hub.TheVariants.{W}
use Rattle.hubs.specs.declared.jack.Jack.TheVariants.{Link, Suppress, Symbol}
use Rattle.net.specs.declared.cycle.Cycle.{Cycle}
use Rattle.net.specs.declared.cycle.Point.{Point}
use Rattle.net.specs.declared.cycle.Point.TheVariants.{C, Row, K}
use Rattle.print_unit.specs.ZeroControl.{Wheel, printed_line, has_zero_control}

-- The wheels 1 to 120 from the left, and the line of the cycle that ended last, blank before any.
pub record WheelsState : Type 0 where
  pub wheels : List Wheel
  pub line : List ℕ

-- a wheel that has received nothing, with its jacks as a setup has them plugged
abbrev pub wheel_at_start : Wiring → ℕ → Wheel
wheel_at_start wiring v = record {
  received = replicate 12 false;
  link = is_plugged wiring (Link v);
  suppress = is_plugged wiring (Suppress v);
  symbol = is_plugged wiring (Symbol v);
}

-- at the start no wheel has received anything, and the line is blank
abbrev pub wheels_at_start : Wiring → WheelsState
wheels_at_start wiring = record { wheels = map (wheel_at_start wiring) (range_with_len 1 120); line = replicate 120 32 }

-- the rows of a wheel with one more where the wheel is impulsed at its point
abbrev pub with_impulse : CardRow → Bool → List Bool → List Bool
with_impulse row impulsed received =
    slice_set received (passing_place row) (slice_index_or received (passing_place row) false || impulsed)

-- a wheel at the point of a row
abbrev pub wheel_sensed : CardRow → Bool → Wheel → Wheel
wheel_sensed row impulsed wheel = record wheel { received = with_impulse row impulsed wheel.received }

-- the wheels from wheel v on at the point of a row
abbrev pub collected : ℕ → CardRow → (Hub → Bool) → List Wheel → List Wheel
collected v row picture [] = []
collected v row picture (wheel ∷ others) =
    wheel_sensed row (picture (W v)) wheel ∷ collected (v + 1) row picture others

-- at the points of the rows each wheel collects, in every kind of cycle; at the others nothing changes
abbrev pub wheels_sensed : WheelsState → Cycle → Point → (Hub → Bool) → WheelsState
wheels_sensed wheels cycle C picture = wheels
wheels_sensed wheels cycle (Row row) picture = record wheels { wheels = collected 1 row picture wheels.wheels }
wheels_sensed wheels cycle K picture = wheels

-- a wheel without what it received
abbrev pub emptied : Wheel → Wheel
emptied wheel = record wheel { received = replicate 12 false }

-- at the end of each cycle the line is made, and the wheels forget what they received
abbrev pub wheels_ended : WheelsState → Cycle → WheelsState
wheels_ended wheels cycle = record {
  wheels = map emptied wheels.wheels;
  line = printed_line (has_zero_control cycle) wheels.wheels;
}

-- their number among the units
abbrev pub wheels_number : WheelsState → ℕ
wheels_number wheels = 43
