use Rattle.std.specs.String.{string_bytes}
use Rattle.wire_chart.specs.Writing.{GainsJacks, IsJackBelow}
use Rattle.wire_chart.proofs.write.write_jacks.Given as goal

abbrev pub invariant-loop-place : goal.invariant-loop-place
invariant-loop-place l = GainsJacks (IsJackBelow l.setup l.place) (string_bytes l.fn.text) (string_bytes l.text)
