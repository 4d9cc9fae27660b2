use Rattle.std.proofs.Common.{◌≡◌, ◌≤◌, arith, ap, subst, sym, None}
use Rattle.machine.specs.Runs.{cycle_due}
use Rattle.explain_wheels.specs.RunsWords.{Along, IsBetween, along_of}
use Rattle.explain_wheels.specs.declared.runs.DeckRun.{DeckRun}
use Rattle.explain_wheels.proofs.RunsWords.DeckRuns.{run-falls}
use Rattle.explain_wheels.proofs.runs.DeckRun.go_to.Goals as goal

pub enter-requires-clause-between : goal.enter-requires-clause-between
enter-requires-clause-between c = c.loop-self.invariant.between

pub loop-self-smaller : goal.loop-self-smaller
loop-self-smaller c =
    run-falls c.args.setup.now c.args.cards.now c.in-Some.cycle (along_of c.loop-self.self) c.enter.new.self c.leave.new.self
    c.in-Some.ensures.enters (c.leave.ensures c.args.setup.now c.args.cards.now (along_of c.loop-self.self) c.in-Some.ensures.enters)

pub loop-self-preserved : goal.loop-self-preserved
loop-self-preserved c =
    let ends = c.leave.ensures c.args.setup.now c.args.cards.now (along_of c.loop-self.self) c.in-Some.ensures.enters in
    let more = ap (λ (a : Along). a.passed) ends.along in
    let low = c.loop-self-test.true in
    record { between = ends.between; near = omega (arith, more, low) }

pub returns-in_default-clause-between : goal.returns-in_default-clause-between
returns-in_default-clause-between c =
    subst (IsBetween c.args.setup.now c.args.cards.now) (sym (c.enter.ensures.stays c.in_default.is)) c.loop-self.invariant.between

pub returns-in_default-clause-near : goal.returns-in_default-clause-near
returns-in_default-clause-near c =
    subst (λ (run : DeckRun). run.begun ≤ c.args.count) (sym (c.enter.ensures.stays c.in_default.is)) c.loop-self.invariant.near

pub returns-in_default-clause-over : goal.returns-in_default-clause-over
returns-in_default-clause-over c = λ low.
    subst (λ (run : DeckRun). cycle_due run.machine.machine ≡ None) (sym (c.enter.ensures.stays c.in_default.is))
    (c.enter.ensures.over c.in_default.is)
