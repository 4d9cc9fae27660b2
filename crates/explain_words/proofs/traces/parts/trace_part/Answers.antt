use Rattle.std.proofs.Common.{subst, arith, option_to_list, length, ℕ, List}
use Rattle.explain_wheels.specs.RunsWords.{along_of}
use Rattle.explain_wheels.proofs.RunsWords.DeckRuns.{between-within, run-falls}
use Rattle.explain_words.specs.TracesWords.Listing.{TakesCycle}
use Rattle.explain_words.proofs.TracesWords.PartRuns.{Parted-more, Parted-none, Parted-over}
use Rattle.explain_words.proofs.traces.parts.trace_part.Goals as goal

pub loop-cycle-init : goal.loop-cycle-init
loop-cycle-init c =
    Parted-none c.args.setup.now c.args.cards.now c.args.choice c.in_ok-run.run' c.no_cycles-part.result c.in_ok-run.ensures
    (c.no_cycles-part.ensures.part c.args.choice) c.no_cycles-part.ensures.lines

pub enter-requires-clause-between : goal.enter-requires-clause-between
enter-requires-clause-between c = c.loop-cycle.invariant.between

pub take_cycle-requires-clause-many : goal.take_cycle-requires-clause-many
take_cycle-requires-clause-many c =
    let few = (between-within c.args.setup.now c.args.cards.now c.loop-cycle.run c.loop-cycle.invariant.between).few in
    let all = c.loop-cycle.invariant.all in
    let cards = c.requires in
    omega (arith, few, all, cards)

pub take_cycle-requires-clause-bounded : goal.take_cycle-requires-clause-bounded
take_cycle-requires-clause-bounded c = c.loop-cycle.invariant.bounded

pub loop-cycle-smaller : goal.loop-cycle-smaller
loop-cycle-smaller c =
    run-falls c.args.setup.now c.args.cards.now c.in-Some.cycle (along_of c.loop-cycle.run) c.enter.new.self c.tell_cycle.new.run
    c.in-Some.ensures.enters
    (c.in_ok-tell_cycle.ensures c.args.setup.now c.args.cards.now (along_of c.loop-cycle.run) c.in-Some.ensures.enters).ends

pub loop-cycle-preserved : goal.loop-cycle-preserved
loop-cycle-preserved c =
    Parted-more c.args.setup.now c.args.cards.now c.args.choice c.in-Some.cycle c.loop-cycle.run c.enter.new.self
    c.tell_cycle.new.run c.tell_cycle.new.line.items c.loop-cycle.part c.take_cycle.new.part (option_to_list c.line.result)
    c.loop-cycle.invariant c.in-Some.ensures.enters
    (c.in_ok-tell_cycle.ensures c.args.setup.now c.args.cards.now (along_of c.loop-cycle.run) c.in-Some.ensures.enters)
    c.line.ensures
    (subst (λ (l : List ℕ). TakesCycle c.args.choice (record { card = c.tell_cycle.new.run.card; line = l })
    (length (option_to_list c.line.result)) c.loop-cycle.part c.take_cycle.new.part) c.as_slice.ensures.value
    c.in_ok-take_cycle.ensures)

pub returns-clause-few : goal.returns-clause-few
returns-clause-few c =
    let few = (between-within c.args.setup.now c.args.cards.now c.loop-cycle.run c.loop-cycle.invariant.between).few in
    let all = c.loop-cycle.invariant.all in
    let before = c.loop-cycle.invariant.bounded.before in
    let cards = c.requires in
    omega (arith, few, all, before, cards)

pub returns-clause-part : goal.returns-clause-part
returns-clause-part c =
    Parted-over c.args.setup.now c.args.cards.now c.args.choice c.loop-cycle.run c.loop-cycle.part c.loop-cycle.invariant
    (c.enter.ensures.over c.in_default.is)
