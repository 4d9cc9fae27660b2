use Rattle.std.proofs.Common.{map}
use Rattle.explain_wheels.specs.RunsWords.{along_of}
use Rattle.explain_wheels.proofs.RunsWords.DeckRuns.{run-falls}
use Rattle.explain_ledgers.specs.LedgersWords.Running.{sought_at}
use Rattle.explain_ledgers.proofs.LedgersWords.SoughtLines.{all-found, all-sought, seeks-begun, seeks-more}
use Rattle.explain_ledgers.proofs.ledgers.found.seek.Goals as goal

pub loop-passed-init : goal.loop-passed-init
loop-passed-init c =
    seeks-begun c.args.setup.now c.args.cards.now c.in_ok-run.run' c.args.sought.now c.in_ok-run.ensures c.requires.unfound

pub enter-requires-clause-between : goal.enter-requires-clause-between
enter-requires-clause-between c = c.loop-passed.invariant.between

pub loop-passed-smaller : goal.loop-passed-smaller
loop-passed-smaller c =
    run-falls c.args.setup.now c.args.cards.now c.in-Some.cycle (along_of c.loop-passed.run) c.enter.new.self c.leave.new.self
    c.in-Some.ensures.enters
    (c.leave.ensures c.args.setup.now c.args.cards.now (along_of c.loop-passed.run) c.in-Some.ensures.enters)

pub loop-passed-preserved : goal.loop-passed-preserved
loop-passed-preserved c =
    seeks-more c.args.setup.now c.args.cards.now c.in-Some.cycle c.loop-passed.run c.enter.new.self c.leave.new.self
    c.in-Some.ensures.enters
    (c.leave.ensures c.args.setup.now c.args.cards.now (along_of c.loop-passed.run) c.in-Some.ensures.enters)
    (map sought_at c.args.sought.now) c.loop-passed.sought c.note_all.new.sought c.line.result c.loop-passed.invariant
    c.line.ensures c.note_all.ensures

pub returns-clause-found : goal.returns-clause-found
returns-clause-found c =
    all-found c.args.setup.now c.args.cards.now (along_of c.loop-passed.run) c.loop-passed.sought c.loop-passed.invariant.each
    (c.are_found.ensures c.loop-passed-test.false)

pub returns-in_default-clause-found : goal.returns-in_default-clause-found
returns-in_default-clause-found c =
    all-sought c.args.setup.now c.args.cards.now (along_of c.loop-passed.run) c.loop-passed.sought c.loop-passed.invariant.each
    (c.enter.ensures.over c.in_default.is)
