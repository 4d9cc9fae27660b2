use Rattle.std.proofs.Common.{◌∙◌, sym, refl, subst, arith}
use Rattle.std.proofs.lemmas.Bool.{false≢true}
use Rattle.machine.specs.Machine.{MachineState}
use Rattle.machine_served.specs.ServedWords.Steps.{AreOver}
use Rattle.machine_served.proofs.ServedUnits.Listed.{units_in_order}
use Rattle.machine_served.specs.ServedUnits.AnyUnit.{unit_at}
use Rattle.machine_served.specs.ServedRuns.Course.{served_in}
use Rattle.machine_served.specs.ServedRuns.Runs.{CycleInRounds}
use Rattle.machine_served.proofs.ServedRuns.Serving.{serving_end, serving_few, serving_more, serving_start}
use Rattle.machine_served.proofs.served_runs.rounds.serve_cycle.Goals as goal

pub loop-course-init : goal.loop-course-init
loop-course-init c = record {
  goes = λ wiring is_panel.
      serving_start wiring c.args.cycle c.args.service.now c.args.before (unit_at c.args.units) (served_in c.start-course.result)
      c.start-course.ensures;
  from = omega arith;
  few_rounds = omega arith;
  few_seen = omega arith;
}

pub overflow_add-counts : goal.overflow_add-counts
overflow_add-counts c =
    let low =
    serving_few c.requires.panel.0 c.args.cycle c.args.service.now c.args.before (unit_at c.args.units) (served_in c.loop-course.course)
    c.loop-course.counts (c.loop-course.invariant.goes c.requires.panel.0 c.requires.panel.1)
    (λ over. false≢true (sym c.loop-course-test.true ∙ c.is_over.ensures.1 over)) in
    omega (arith, low, c.loop-course.invariant.few_seen, c.loop-course.invariant.from, c.round.ensures.few, c.requires.seen)

pub overflow_add-counts-in-loop-course : goal.overflow_add-counts-in-loop-course
overflow_add-counts-in-loop-course c =
    let low =
    serving_few c.requires.panel.0 c.args.cycle c.args.service.now c.args.before (unit_at c.args.units) (served_in c.loop-course.course)
    c.loop-course.counts (c.loop-course.invariant.goes c.requires.panel.0 c.requires.panel.1)
    (λ over. false≢true (sym c.loop-course-test.true ∙ c.is_over.ensures.1 over)) in
    omega (arith, low, c.requires.rounds)

pub loop-course-preserved : goal.loop-course-preserved
loop-course-preserved c =
    let goes : AreOver 45 (served_in c.loop-course.course) → ⊥ =
    λ over. false≢true (sym c.loop-course-test.true ∙ c.is_over.ensures.1 over) in
    let low =
    serving_few c.requires.panel.0 c.args.cycle c.args.service.now c.args.before (unit_at c.args.units) (served_in c.loop-course.course)
    c.loop-course.counts (c.loop-course.invariant.goes c.requires.panel.0 c.requires.panel.1) goes in
    record {
      goes = λ wiring is_panel.
          serving_more wiring c.args.cycle c.args.service.now c.args.before (unit_at c.args.units) (served_in c.loop-course.course)
          (served_in c.round.new.self) c.loop-course.counts c.round.result c.order.result.now
          (c.loop-course.invariant.goes wiring is_panel) goes c.order.ensures.order c.order.ensures.whole
          (c.round.ensures.round wiring is_panel);
      from = omega (arith, c.loop-course.invariant.from);
      few_rounds = omega (arith, low);
      few_seen = omega (arith, c.loop-course.invariant.few_seen, c.loop-course.invariant.from, c.round.ensures.few);
    }

pub loop-course-smaller : goal.loop-course-smaller
loop-course-smaller c =
    let low =
    serving_few c.requires.panel.0 c.args.cycle c.args.service.now c.args.before (unit_at c.args.units) (served_in c.loop-course.course)
    c.loop-course.counts (c.loop-course.invariant.goes c.requires.panel.0 c.requires.panel.1)
    (λ over. false≢true (sym c.loop-course-test.true ∙ c.is_over.ensures.1 over)) in
    omega (arith, low)

pub returns-clause-ran : goal.returns-clause-ran
returns-clause-ran c wiring is_panel =
    subst (λ (m : MachineState). CycleInRounds wiring c.args.service.now c.args.cycle c.args.units m c.args.before c.loop-course.counts)
    (sym c.end_cycle.ensures.ended)
    (serving_end wiring c.args.cycle c.args.service.now c.args.before (unit_at c.args.units) c.args.units c.loop-course.course.units
    (served_in c.loop-course.course) c.loop-course.counts refl refl (units_in_order c.loop-course.course.units c.end_cycle.ensures.ordered)
    (c.loop-course.invariant.goes wiring is_panel) (c.is_over.ensures.0 c.loop-course-test.false))

pub returns-clause-few_seen : goal.returns-clause-few_seen
returns-clause-few_seen c =
    omega (
      arith,
      c.loop-course.invariant.few_seen,
      c.loop-course.invariant.from,
      c.loop-course.invariant.few_rounds,
    )
