use Rattle.std.proofs.Common.{◌≡◌, drop}
use Rattle.report_writer.proofs.Lines.{IsAdding}
use Rattle.report_writer.proofs.writer.PageWriter.add_all.Given as goal

abbrev pub invariant-loop-placed : goal.invariant-loop-placed
invariant-loop-placed g l = record {
  lines : IsAdding g.S.Sink.held l.lines (drop l.placed-index l.lines) l.initial.self l.self;
  same : g.S.Sink.borrow l.self.out.sink ≡ g.S.Sink.borrow l.initial.self.out.sink;
}
