use Rattle.std.specs.String.{string_bytes}
use Rattle.wire_chart.specs.Writing.{GainsStops, IsStopAbove}
use Rattle.wire_chart.proofs.write.write_channel.Given as goal

abbrev pub invariant-loop-line : goal.invariant-loop-line
invariant-loop-line l = GainsStops (IsStopAbove l.tape l.channel l.line) (string_bytes l.fn.text) (string_bytes l.text)
