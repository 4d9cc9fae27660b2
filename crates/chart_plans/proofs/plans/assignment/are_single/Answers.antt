use Rattle.std.proofs.Common.{◌≡◌, true, get_or, refl}
use Rattle.std.proofs.lemmas.Option.{slice_get-get_or}
use Rattle.chart_plans.proofs.PlansWords.Single.{AreSingleBelow-more, AreSingle-all, no_counter}
use Rattle.chart_plans.proofs.plans.assignment.are_single.Goals as goal

pub loop-place-preserved : goal.loop-place-preserved
loop-place-preserved c =
    AreSingleBelow-more c.args.counters.now c.loop-place.place (get_or c.args.counters.now c.loop-place.place no_counter) c.loop-place-test.true
    (slice_get-get_or c.args.counters.now c.loop-place.place no_counter c.loop-place-test.true) c.loop-place.invariant
    (λ found. let yes : c.shares_with_one.result ≡ true = c.shares_with_one.ensures.1 found in cc (c.if-shares_with_one.false))

pub returns : goal.returns
returns c = ((λ yes. AreSingle-all c.args.counters.now c.loop-place.place c.loop-place-test.false c.loop-place.invariant), (λ single. refl))
