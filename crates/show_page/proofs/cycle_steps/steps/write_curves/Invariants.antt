use Rattle.std.specs.Prelude.{◌≡◌, ◌++◌, take}
use Rattle.std.specs.List.{flat_map}
use Rattle.std.specs.String.{string_bytes}
use Rattle.show_page.specs.CycleSteps.Steps.{wire_curve}
use Rattle.show_page.proofs.cycle_steps.steps.write_curves.Given as goal

-- the curves so far are written
abbrev pub invariant-loop-wire : goal.invariant-loop-wire
invariant-loop-wire l = string_bytes l.text ≡ string_bytes l.initial.text ++ flat_map wire_curve (take l.wire-index l.wires)
