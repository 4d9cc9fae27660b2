use Rattle.std.specs.String.{string_bytes}
use Rattle.wire_chart.specs.Writing.{GainsStops, IsStopBelow}
use Rattle.wire_chart.proofs.write.write_stops.Given as goal

abbrev pub invariant-loop-channel : goal.invariant-loop-channel
invariant-loop-channel l = GainsStops (IsStopBelow l.tape l.channel) (string_bytes l.fn.text) (string_bytes l.text)
