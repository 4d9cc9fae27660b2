use Rattle.std.specs.Prelude.{Contains, take}
use Rattle.std.specs.String.{string_bytes}
use Rattle.wire_chart.specs.Writing.{GainsWires}
use Rattle.wire_chart.proofs.write.write_wires.Given as goal

-- the wires so far
abbrev pub invariant-loop-wire : goal.invariant-loop-wire
invariant-loop-wire l =
    GainsWires l.version l.form (Contains (take l.wire-index l.wires)) (string_bytes l.fn.text) (string_bytes l.text)
