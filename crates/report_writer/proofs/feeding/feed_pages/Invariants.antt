use Rattle.std.proofs.Common.{◌≡◌}
use Rattle.report_writer.specs.Added.{blank_pages}
use Rattle.report_writer.specs.Outgoing.{TakesUp}
use Rattle.report_writer.proofs.feeding.feed_pages.Given as goal

abbrev pub invariant-loop-page : goal.invariant-loop-page
invariant-loop-page g l = record {
  bytes : TakesUp g.S.Sink.held (blank_pages l.form_lines l._page) l.initial.out l.out;
  same : g.S.Sink.borrow l.out.sink ≡ g.S.Sink.borrow l.initial.out.sink;
}
