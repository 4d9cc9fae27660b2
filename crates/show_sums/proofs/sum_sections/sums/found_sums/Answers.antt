use Rattle.std.proofs.Common.{◌∙◌, sym, subst, arith}
use Rattle.show_sums.proofs.SumSections.FoundSums.{IsThere, as-many, found-more, is-there, none-missing}
use Rattle.show_sums.proofs.sum_sections.sums.found_sums.Goals as goal

pub index-requires : goal.index-requires
index-requires c =
    let low = c.loop-k-test.true in
    let many =
    as-many c.args.wanted.now c.in_ok-places.places.items c.in_ok-sought.sought.items c.in_ok-places.ensures
    (c.in_ok-sought.ensures.places ∙ c.deref.ensures.value) in
    omega (arith, low, many)

pub found_sum-requires : goal.found_sum-requires
found_sum-requires c =
    none-missing c.args.setup.now c.args.cards.now c.args.wanted.now c.in_ok-places.places.items c.in_ok-sought.sought.items
    c.in_ok-places.ensures (c.in_ok-sought.ensures.places ∙ c.deref.ensures.value) c.in_ok-sought.ensures.found c.requires.wanted c.loop-k.k
    c.index.result.now c.loop-k-test.true c.index.ensures

pub loop-k-preserved : goal.loop-k-preserved
loop-k-preserved c =
    found-more c.args.setup.now c.args.cards.now c.args.wanted.now c.loop-k.k _ c.index.result.now c.loop-k.found.items c.push.new.self.items
    c.found_sum.result c.loop-k-test.true
    (subst (IsThere c.args.setup.now c.args.cards.now _) (sym c.index.ensures)
    (is-there c.args.setup.now c.args.cards.now c.args.wanted.now c.in_ok-places.places.items c.in_ok-sought.sought.items c.in_ok-places.ensures
    (c.in_ok-sought.ensures.places ∙ c.deref.ensures.value) c.in_ok-sought.ensures.found c.requires.wanted c.loop-k.k _
    c.index.result.now c.loop-k-test.true))
    c.found_sum.ensures.wanted c.found_sum.ensures.found c.in_ok-push.ensures.items c.loop-k.invariant
