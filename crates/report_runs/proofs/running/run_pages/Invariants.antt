use Rattle.std.proofs.Common.{◌≡◌, ◌-◌}
use Rattle.report_runs.specs.HelperStanding.{Stands, start_of}
use Rattle.report_runs.proofs.running.run_pages.Given as goal

abbrev pub invariant-loop-stopped : goal.invariant-loop-stopped
invariant-loop-stopped g l = record {
  stands : Stands g.S.Source.left g.W.Sink.held g.W.Sink.has_failed l.chart
      (start_of g.S.Source.left g.W.Sink.held l.setup l.initial.cards l.initial.pages) l.cards l.run l.pages;
  source : g.S.Source.borrow l.cards.source ≡ g.S.Source.borrow l.initial.cards.source;
  sink : g.W.Sink.borrow l.pages.out.sink ≡ g.W.Sink.borrow l.initial.pages.out.sink;
}

abbrev pub decreases-loop-stopped : goal.decreases-loop-stopped
decreases-loop-stopped g l = 1000000 - l.run.count
