use Rattle.std.proofs.Common.{◌≡◌, ◌≤◌, ◌-◌, length, take}
use Rattle.std.specs.Io.KnownBytes.{Appends}
use Rattle.report_writer.proofs.outlet.write_all.Given as goal

abbrev pub invariant-loop-done : goal.invariant-loop-done
invariant-loop-done g l = record {
  within : l.done ≤ length l.bytes;
  taken : Appends (g.S.Sink.held l.initial.sink) (g.S.Sink.held l.sink) (take l.done l.bytes);
  well : g.S.Sink.has_failed l.sink ≡ g.S.Sink.has_failed l.initial.sink;
  same : g.S.Sink.borrow l.sink ≡ g.S.Sink.borrow l.initial.sink;
}

abbrev pub decreases-loop-done : goal.decreases-loop-done
decreases-loop-done g l = length l.bytes - l.done
