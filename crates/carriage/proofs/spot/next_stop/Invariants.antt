use Rattle.std.proofs.Common.{◌≡◌, ◌+◌, ◌-◌, ◌<◌}
use Rattle.carriage.specs.Moves.{next_stop, stop_from}
use Rattle.carriage.proofs.spot.next_stop.Given as goal

-- the next stop is the first one among the lines that are left
abbrev pub invariant-loop-stop : goal.invariant-loop-stop
invariant-loop-stop l = record {
  below : l.line < l.stop;
  rest : next_stop l.tape l.channel l.line ≡ stop_from l.tape l.channel l.stop (l.lines + 1 - l.stop);
}
