use Rattle.machine_sets.proofs.SpreadsWords.LinkLemmas.{Spreads-all, Spreads-more}
use Rattle.machine_sets.proofs.spreads.links.follow_links.Goals as goal

pub loop-link-preserved : goal.loop-link-preserved
loop-link-preserved c =
    let more =
    Spreads-more c.args.links.now c.loop-link.link-index _ c.args.sets.now c.loop-link.sets c.follow.new.sets c.loop-link-test.true
    (c.requires c.loop-link.link-index _ c.loop-link-test.true) c.loop-link.invariant.exits c.loop-link.invariant.spread c.follow.ensures in
    record { spread = more.0; exits = more.1; long = c.follow.array_long }

pub returns-clause-spread : goal.returns-clause-spread
returns-clause-spread c = Spreads-all c.args.links.now c.loop-link.link-index _ _ c.loop-link-test.false c.loop-link.invariant.spread
