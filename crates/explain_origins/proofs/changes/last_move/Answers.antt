use Rattle.std.proofs.Common.{arith, refl}
use Rattle.explain_wheels.specs.RunsWords.{along_of}
use Rattle.explain_wheels.proofs.RunsWords.DeckRuns.{is-due}
use Rattle.explain_ledgers.proofs.LedgersWords.Keeping.{groups-many}
use Rattle.explain_origins.specs.Changes.{moves}
use Rattle.explain_origins.proofs.Keeping.{keeps-begun, keeps-more, kept-over, last-has}
use Rattle.explain_origins.proofs.Storing.{four-units, goes-many}
use Rattle.explain_origins.proofs.changes.last_move.Goals as goal

pub loop-passed-init : goal.loop-passed-init
loop-passed-init c =
    keeps-begun c.args.setup.now c.args.cards.now c.in_ok-run.run' (moves c.args.holder) c.in_ok-run.ensures

pub enter_due-cycle-requires-clause-between : goal.enter_due-cycle-requires-clause-between
enter_due-cycle-requires-clause-between c = c.loop-passed.invariant.behind.between

pub enter_due-cycle-requires-clause-due : goal.enter_due-cycle-requires-clause-due
enter_due-cycle-requires-clause-due c =
    let low = c.loop-passed-test.true in
    is-due c.args.setup.now c.args.cards.now c.loop-passed.passed c.args.count c.loop-passed.run c.loop-passed.invariant.behind
    c.requires.has (omega (arith, low))

pub moves-requires-clause-storage : goal.moves-requires-clause-storage
moves-requires-clause-storage c =
    goes-many c.args.setup.now c.enter_due-cycle.result (along_of c.loop-passed.run) c.enter_due-cycle.new.self.machine.machine
    (four-units c.args.setup.now c.args.cards.now c.enter_due-cycle.ensures.comes) c.enter_due-cycle.ensures.goes

pub moves-requires-clause-groups : goal.moves-requires-clause-groups
moves-requires-clause-groups c =
    groups-many c.args.setup.now c.args.cards.now c.enter_due-cycle.result (along_of c.loop-passed.run)
    c.enter_due-cycle.new.self.machine.machine c.enter_due-cycle.new.self.machine.machine.groups c.enter_due-cycle.ensures.comes
    c.enter_due-cycle.ensures.goes refl

pub loop-passed-preserved : goal.loop-passed-preserved
loop-passed-preserved c =
    keeps-more c.args.setup.now c.args.cards.now c.loop-passed.passed c.enter_due-cycle.result c.loop-passed.run
    c.enter_due-cycle.new.self c.leave.new.self (moves c.args.holder) c.moves.result c.loop-passed.last c.last_with-last.result
    c.loop-passed.invariant c.enter_due-cycle.ensures
    (c.leave.ensures c.args.setup.now c.args.cards.now (along_of c.loop-passed.run) c.enter_due-cycle.ensures) c.moves.ensures
    c.last_with-last.ensures

pub returns-clause-last : goal.returns-clause-last
returns-clause-last c =
    let less = c.loop-passed-test.false in
    let end = c.loop-passed.auto.passed-end in
    kept-over c.args.setup.now c.args.cards.now c.loop-passed.passed c.args.count c.loop-passed.run (moves c.args.holder) c.loop-passed.last
    c.loop-passed.invariant (omega (arith, less, end))

pub returns-clause-has : goal.returns-clause-has
returns-clause-has c = last-has c.args.setup.now c.args.cards.now (moves c.args.holder) c.loop-passed.invariant.is
