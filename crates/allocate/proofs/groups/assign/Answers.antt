use Rattle.std.proofs.Common.{◌∙◌, ap, rules, length, None}
use Rattle.std.proofs.lemmas.List.{length-replicate}
use Rattle.std.proofs.lemmas.Result.{IfOk-weaker}
use Rattle.allocate.specs.HelperTaking.{taken_at}
use Rattle.allocate.proofs.Taking.{partly-none, at_none, partly-more, enough_free, partly-all, IsAssignment-by_rule}
use Rattle.allocate.proofs.groups.assign.Goals as goal

pub loop-place-init : goal.loop-place-init
loop-place-init c =
    let same = c.in_ok-taken.ensures.items_if_clones_equal (search rules) in
    partly-none c.args.totals.now c.args.profile.now c.in_ok-taken.taken.items
    (ap length same ∙ length-replicate (length c.args.totals.now) None)
    (λ place. ap (λ taken. taken_at taken place) same ∙ at_none (length c.args.totals.now) place)

pub unreachable-requires : goal.unreachable-requires
unreachable-requires c =
    enough_free c.args.totals.now c.args.profile.now c.loop-place.taken.items c.in-Some.place
    c.requires.enough c.loop-place.invariant (rw c.deref.ensures.value at c.in-Some.ensures)
    (rw c.deref-in-Some.ensures.value at c.in_default-lowest_counter.ensures)

pub loop-place-preserved : goal.loop-place-preserved
loop-place-preserved c =
    partly-more c.args.totals.now c.args.profile.now c.loop-place.taken.items c.in-Some.place
    c.in-Some-lowest_counter.counter c.loop-place.invariant (rw c.deref.ensures.value at c.in-Some.ensures)
    (rw c.deref-in-Some.ensures.value at c.in-Some-lowest_counter.ensures)

pub returns-clause-rule : goal.returns-clause-rule
returns-clause-rule c =
    IfOk-weaker c.all_taken.result _ _
    (λ counters all.
    partly-all c.args.totals.now c.args.profile.now c.loop-place.taken.items counters.items c.loop-place.invariant
    (rw c.deref-2.ensures.value at all))
    c.all_taken.ensures

pub returns-clause-own : goal.returns-clause-own
returns-clause-own c =
    IfOk-weaker c.all_taken.result _ _
    (λ counters by_rule. IsAssignment-by_rule c.args.totals.now c.args.profile.now counters.items c.requires.needs by_rule)
    (returns-clause-rule c)
