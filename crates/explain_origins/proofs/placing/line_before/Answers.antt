use Rattle.std.proofs.Common.{arith}
use Rattle.explain_wheels.specs.RunsWords.{along_of}
use Rattle.explain_wheels.proofs.RunsWords.DeckRuns.{is-due}
use Rattle.explain_origins.proofs.Printing.{printed-over, prints-begun, prints-more}
use Rattle.explain_origins.proofs.placing.line_before.Goals as goal

pub loop-passed-init : goal.loop-passed-init
loop-passed-init c = prints-begun c.args.setup.now c.args.cards.now c.in_ok-run.run' c.in_ok-run.ensures

pub enter_due-cycle-requires-clause-between : goal.enter_due-cycle-requires-clause-between
enter_due-cycle-requires-clause-between c = c.loop-passed.invariant.behind.between

pub enter_due-cycle-requires-clause-due : goal.enter_due-cycle-requires-clause-due
enter_due-cycle-requires-clause-due c =
    let low = c.loop-passed-test.true in
    is-due c.args.setup.now c.args.cards.now c.loop-passed.passed c.args.count c.loop-passed.run c.loop-passed.invariant.behind
    c.requires.has (omega (arith, low))

pub loop-passed-preserved : goal.loop-passed-preserved
loop-passed-preserved c =
    prints-more c.args.setup.now c.args.cards.now c.loop-passed.passed c.enter_due-cycle.result c.loop-passed.run
    c.enter_due-cycle.new.self c.leave.new.self _ c.loop-passed.last c.line_with-last.result c.loop-passed.invariant
    c.enter_due-cycle.ensures
    (c.leave.ensures c.args.setup.now c.args.cards.now (along_of c.loop-passed.run) c.enter_due-cycle.ensures) c.line.ensures
    c.line_with-last.ensures

pub returns : goal.returns
returns c =
    let less = c.loop-passed-test.false in
    let end = c.loop-passed.auto.passed-end in
    printed-over c.args.setup.now c.args.cards.now c.loop-passed.passed c.args.count c.loop-passed.run c.loop-passed.last
    c.loop-passed.invariant (omega (arith, less, end))
