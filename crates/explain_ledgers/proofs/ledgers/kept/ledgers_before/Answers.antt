use Rattle.std.proofs.Common.{◌≤◌, arith}
use Rattle.std.proofs.lemmas.List.Elements.{All-weaker}
use Rattle.explain_wheels.specs.RunsWords.{along_of}
use Rattle.explain_wheels.proofs.RunsWords.DeckRuns.{between-within}
use Rattle.explain_ledgers.specs.declared.ledgers.kept.AskedLedger.{AskedLedger}
use Rattle.explain_ledgers.proofs.LedgersWords.Keeping.{groups-lawful, groups-many}
use Rattle.explain_ledgers.proofs.LedgersWords.KeptLedgers.{all-can, all-kept, all-past, keeps-begun, keeps-more}
use Rattle.explain_ledgers.proofs.ledgers.kept.ledgers_before.Goals as goal

pub loop-passed-init : goal.loop-passed-init
loop-passed-init c =
    keeps-begun c.args.setup.now c.args.cards.now c.args.ends c.args.asked.now c.in_ok-run.run' c.in_ok-kept.kept.items c.in_ok-run.ensures
    c.in_ok-kept.ensures

pub enter_due-cycle-requires-clause-between : goal.enter_due-cycle-requires-clause-between
enter_due-cycle-requires-clause-between c = c.loop-passed.invariant.behind.between

pub enter_due-cycle-requires-clause-due : goal.enter_due-cycle-requires-clause-due
enter_due-cycle-requires-clause-due c = λ none.
    let low = c.loop-passed-test.true in
    let counted = c.loop-passed.invariant.behind.counted in
    let past =
    c.last_of-last.ensures.least c.loop-passed.run.begun
    (all-past c.args.setup.now c.args.cards.now c.args.asked.now (along_of c.loop-passed.run) c.loop-passed.invariant.behind.between.comes
    c.requires.has none) in
    omega (arith, low, past, counted)

pub take_all-requires-clause-can : goal.take_all-requires-clause-can
take_all-requires-clause-can c =
    let few = (between-within c.args.setup.now c.args.cards.now c.loop-passed.run c.loop-passed.invariant.behind.between).few in
    let cards = c.requires.few in
    all-can c.args.setup.now c.args.cards.now c.args.ends c.args.asked.now c.loop-passed.passed c.loop-passed.run c.loop-passed.kept.items
    c.loop-passed.invariant c.requires.accounts (omega (arith, few, cards))

pub take_all-requires-clause-long : goal.take_all-requires-clause-long
take_all-requires-clause-long c =
    groups-many c.args.setup.now c.args.cards.now c.enter_due-cycle.result (along_of c.loop-passed.run)
    c.enter_due-cycle.new.self.machine.machine c.groups.result.now c.enter_due-cycle.ensures.comes c.enter_due-cycle.ensures.goes
    c.groups.ensures

pub take_all-requires-clause-lawful : goal.take_all-requires-clause-lawful
take_all-requires-clause-lawful c =
    groups-lawful c.args.setup.now c.args.cards.now c.enter_due-cycle.result (along_of c.loop-passed.run)
    c.enter_due-cycle.new.self.machine.machine c.groups.result.now c.enter_due-cycle.ensures.comes c.enter_due-cycle.ensures.goes
    c.groups.ensures

pub loop-passed-preserved : goal.loop-passed-preserved
loop-passed-preserved c =
    keeps-more c.args.setup.now c.args.cards.now c.args.ends c.args.asked.now c.loop-passed.passed c.enter_due-cycle.result
    c.loop-passed.run c.enter_due-cycle.new.self c.leave.new.self c.groups.result.now c.loop-passed.kept.items c.take_all.new.kept.items
    c.loop-passed.invariant c.enter_due-cycle.ensures
    (c.leave.ensures c.args.setup.now c.args.cards.now (along_of c.loop-passed.run) c.enter_due-cycle.ensures) c.groups.ensures
    c.in_ok-take_all.ensures

pub returns-clause-kept : goal.returns-clause-kept
returns-clause-kept c =
    let less = c.loop-passed-test.false in
    all-kept c.args.setup.now c.args.cards.now c.args.ends c.args.asked.now c.loop-passed.passed c.loop-passed.run c.loop-passed.kept.items
    c.loop-passed.invariant
    (All-weaker (λ (one : AskedLedger). one.passed ≤ c.last_of-last.result) (λ (one : AskedLedger). one.passed ≤ c.loop-passed.passed)
    (λ one low. omega (arith, low, less)) c.args.asked.now c.last_of-last.ensures.high)
