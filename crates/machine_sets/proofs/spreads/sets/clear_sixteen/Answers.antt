use Rattle.std.proofs.Common.{◌≡◌, ◌*◌, ◌∙◌, ℕ, arith, subst}
use Rattle.std.proofs.lemmas.List.{length-set}
use Rattle.machine_sets.proofs.SpreadsWords.Cleared.{AreCleared, cleared-more, cleared-none, cleared-sixteen}
use Rattle.machine_sets.proofs.spreads.sets.clear_sixteen.Goals as goal

pub loop-k-init : goal.loop-k-init
loop-k-init c = cleared-none (16 * c.args.sixteen) c.args.sets.now c.told-sets

pub loop-k-preserved : goal.loop-k-preserved
loop-k-preserved c =
    let below = c.loop-k-test.true in
    let low = c.requires in
    cleared-more c.loop-k.k (16 * c.args.sixteen) c.args.sets.now c.loop-k.sets (omega (arith, below, low))
    (length-set c.loop-k.sets _ _ ∙ c.loop-k.invariant.long) c.loop-k.invariant

pub returns-clause-rows : goal.returns-clause-rows
returns-clause-rows c =
    let end : c.loop-k.k ≡ 16 = omega arith in
    cleared-sixteen c.args.sixteen c.args.sets.now c.loop-k.sets
    (subst (λ (k : ℕ). AreCleared k (16 * c.args.sixteen) c.args.sets.now c.loop-k.sets) end c.loop-k.invariant)

pub returns-clause-long : goal.returns-clause-long
returns-clause-long c = c.loop-k.invariant.long
