use Rattle.std.proofs.Common.{◌≤◌}
use Rattle.wiring_lines.specs.JacksAndTape.HelperJacks.{Plugs, Ranged, jack_of}
use Rattle.wiring_lines.proofs.jacks_and_tape.panel_jacks.plug_wheels.Given as goal

abbrev pub invariant-loop-wheel : goal.invariant-loop-wheel
invariant-loop-wheel l =
    (l.from ≤ l.wheel) × (l.wheel ≤ l.end) × Plugs (Ranged (jack_of l.which) l.from l.wheel) l.initial.setup l.setup
