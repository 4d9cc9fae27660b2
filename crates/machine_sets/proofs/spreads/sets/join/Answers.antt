use Rattle.std.proofs.Common.{refl, sym, ◌∙◌, arith}
use Rattle.std.proofs.lemmas.List.{length-set}
use Rattle.machine_sets.proofs.SpreadsWords.JoinedSets.{joined-none, joined-more, joined-all}
use Rattle.machine_sets.proofs.spreads.sets.join.Goals as goal

pub loop-k-init : goal.loop-k-init
loop-k-init c = joined-none c.args.first c.args.sets.now c.args.all.now c.told-all

pub loop-k-preserved : goal.loop-k-preserved
loop-k-preserved c =
    let below = c.loop-k-test.true in
    let most = c.min-count.ensures in
    let low = c.requires in
    joined-more c.loop-k.k c.args.first c.args.sets.now c.args.all.now c.loop-k.all _ (grind (arith, below, most, low)) refl
    (length-set c.loop-k.all _ _ ∙ c.loop-k.invariant.long) c.loop-k.invariant

pub returns-clause-joined : goal.returns-clause-joined
returns-clause-joined c =
    let end = c.loop-k-test.false in
    let most = c.min-count.ensures in
    joined-all c.loop-k.k c.args.first c.args.sets.now c.args.all.now c.loop-k.all (rw (sym most) end) c.loop-k.invariant

pub returns-clause-long : goal.returns-clause-long
returns-clause-long c = c.loop-k.invariant.long
