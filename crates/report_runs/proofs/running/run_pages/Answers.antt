use Rattle.std.proofs.Common.{◌∙◌, ap, refl, subst, sym}
use Rattle.std.proofs.lemmas.Result.{err_from_is_err_and}
use Rattle.report_runs.proofs.Ending.{failed_of_writing, has_run, has_stopped, stopped_at_end}
use Rattle.report_runs.proofs.Steps.{stands_first, stops_at_once}
use Rattle.report_runs.specs.HelperStanding.{GoesOn, start_of}
use Rattle.report_runs.proofs.running.run_pages.Goals as goal

pub returns-in-Err-clause-run : goal.returns-in-Err-clause-run
returns-in-Err-clause-run g c =
    let start = start_of g.S.Source.left g.W.Sink.held c.args.setup.now c.args.cards.now c.args.pages.now in
    let stops = stops_at_once g.S.Source.left g.W.Sink.held g.W.Sink.has_failed c.args.chart.now c.args.setup.now c.args.cards.now c.args.pages.now
    c.requires.serves c.requires.unbegun in
    has_stopped {start = start} stops c.stop.result c.stop.new.pages.out c.stop.ensures.counted
    (rw (sym c.in-Err.ensures.refused) c.stop.ensures.bytes)
    (λ failed. ap (λ w. w.out) (c.stop.ensures.again failed).1)

pub loop-stopped-init : goal.loop-stopped-init
loop-stopped-init g c = record {
  stands = stands_first g.S.Source.left g.W.Sink.held g.W.Sink.has_failed c.args.chart.now c.args.setup.now c.args.cards.now c.args.pages.now
      c.requires.serves c.requires.unbegun c.in-Ok.run' c.in-Ok.ensures.machine c.in-Ok.ensures.sums c.in-Ok.ensures.none_taken
      c.in-Ok.ensures.none_waits c.in-Ok.ensures.none_counted;
  source = refl;
  sink = refl;
}

pub loop-stopped-preserved : goal.loop-stopped-preserved
loop-stopped-preserved g c =
    let start = start_of g.S.Source.left g.W.Sink.held c.args.setup.now c.args.cards.now c.args.pages.now in
    let goes = c.in-Ok-true.ensures.goes_on start c.requires.serves c.loop-stopped.invariant.stands in
    record {
      stands = subst (GoesOn g.S.Source.left g.W.Sink.held g.W.Sink.has_failed c.args.chart.now start c.step.new.cards c.step.new.run c.step.new.pages)
          c.in-Ok-true.field-0-test goes;
      source = c.in-Ok-true.ensures.source ∙ c.loop-stopped.invariant.source;
      sink = c.in-Ok-true.ensures.sink ∙ c.loop-stopped.invariant.sink;
    }

pub returns-in-Err-step-clause-run : goal.returns-in-Err-step-clause-run
returns-in-Err-step-clause-run g c =
    let start = start_of g.S.Source.left g.W.Sink.held c.args.setup.now c.args.cards.now c.args.pages.now in
    let stops = c.in-Err-step.ensures.goes_on start c.requires.serves c.loop-stopped.invariant.stands in
    has_stopped {start = start} stops c.stop-in-Err-step.result c.stop-in-Err-step.new.pages.out c.stop-in-Err-step.ensures.counted
    c.stop-in-Err-step.ensures.bytes
    (λ failed. ap (λ w. w.out) (c.stop-in-Err-step.ensures.again failed).1)

pub returns-in-Err-step-clause-write : goal.returns-in-Err-step-clause-write
returns-in-Err-step-clause-write g c =
    let start = start_of g.S.Source.left g.W.Sink.held c.args.setup.now c.args.cards.now c.args.pages.now in
    let stops = c.in-Err-step.ensures.goes_on start c.requires.serves c.loop-stopped.invariant.stands in
    failed_of_writing {start = start} stops c.stop-in-Err-step.result c.stop-in-Err-step.new.pages.out c.stop-in-Err-step.ensures.counted
    c.stop-in-Err-step.ensures.bytes

pub returns-in_err-end-clause-run : goal.returns-in_err-end-clause-run
returns-in_err-end-clause-run g c =
    let start = start_of g.S.Source.left g.W.Sink.held c.args.setup.now c.args.cards.now c.args.pages.now in
    let goes = c.in-Ok-false.ensures.goes_on start c.requires.serves c.loop-stopped.invariant.stands in
    let ends = subst (GoesOn g.S.Source.left g.W.Sink.held g.W.Sink.has_failed c.args.chart.now start c.step.new.cards c.step.new.run c.step.new.pages)
    c.in-Ok-false.field-0-test goes in
    let p = err_from_is_err_and c.from_residual.result c.from_residual.ensures.1 in
    rw (p.1)
    (stopped_at_end {start = start} c.requires.serves ends p.0 c.end.new.self.out c.in_err-end.ensures.bytes.1 p.2.0
    (p.2.1 ∙ c.in_err-end.ensures.bytes.0))

pub returns-clause-run : goal.returns-clause-run
returns-clause-run g c =
    let start = start_of g.S.Source.left g.W.Sink.held c.args.setup.now c.args.cards.now c.args.pages.now in
    let goes = c.in-Ok-false.ensures.goes_on start c.requires.serves c.loop-stopped.invariant.stands in
    let ends = subst (GoesOn g.S.Source.left g.W.Sink.held g.W.Sink.has_failed c.args.chart.now start c.step.new.cards c.step.new.run c.step.new.pages)
    c.in-Ok-false.field-0-test goes in
    rw c.from.ensures
    (has_run c.requires.serves ends c.end.new.self.out c.in_ok-end.ensures.bytes c.in_ok-end.ensures.all)
