use Rattle.std.proofs.Common.{◌≡◌, replicate}
use Rattle.report_writer.specs.Outgoing.{TakesUp}
use Rattle.report_writer.proofs.outlet.Outlet.repeat.Given as goal

abbrev pub invariant-loop-time : goal.invariant-loop-time
invariant-loop-time g l = record {
  bytes : TakesUp g.S.Sink.held (replicate l._time l.byte) l.initial.self l.self;
  same : g.S.Sink.borrow l.self.sink ≡ g.S.Sink.borrow l.initial.self.sink;
}
