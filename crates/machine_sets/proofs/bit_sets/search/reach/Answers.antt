use Rattle.machine_sets.proofs.BitSets.SearchLemmas.{IsSearching-start, IsSearching-next, IsReached-found, missing-step, smaller}
use Rattle.machine_sets.proofs.bit_sets.search.reach.Goals as goal

pub loop-has_new-init : goal.loop-has_new-init
loop-has_new-init c =
    IsSearching-start c.args.rows.now c.args.runs.now c.args.words.now c.args.closed.now c.args.commons.now c.join_own.new.words
    c.meet-has_new.result c.join_own.array_long c.join_own.ensures.gains c.requires.commons
    c.meet-has_new.ensures.apart

pub loop-has_new-smaller : goal.loop-has_new-smaller
loop-has_new-smaller c =
    smaller _ _ c.loop-has_new.has_new c.loop-has_new-test.true
    (missing-step c.args.rows.now c.args.runs.now c.args.closed.now c.loop-has_new.words c.pass_on-has_new.new.words c.pass_on-has_new.result
    c.pass_on-has_new.array_long c.pass_on-has_new.ensures)

pub loop-has_new-preserved : goal.loop-has_new-preserved
loop-has_new-preserved c =
    IsSearching-next c.args.rows.now c.args.runs.now c.args.words.now c.args.closed.now c.loop-has_new.words c.pass_on-has_new.new.words
    c.loop-has_new.has_new c.pass_on-has_new.result c.loop-has_new.invariant c.pass_on-has_new.ensures

pub returns-clause-reached : goal.returns-clause-reached
returns-clause-reached c place =
    IsReached-found c.args.rows.now c.args.runs.now c.args.words.now c.args.closed.now _ _ c.loop-has_new-test.false
    c.loop-has_new.invariant place
