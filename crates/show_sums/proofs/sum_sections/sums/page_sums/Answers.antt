use Rattle.std.proofs.Common.{◌<◌, ◌∙◌, sym, subst, List}
use Rattle.std.specs.Prelude.{All}
use Rattle.show_sums.specs.SumSections.WantedSums.{IsFoundSum, IsWanted}
use Rattle.show_sums.specs.declared.sum_sections.sums.FoundSum.{FoundSum}
use Rattle.show_sums.specs.declared.sum_sections.sums.WantedSum.{WantedSum}
use Rattle.show_sums.proofs.SumSections.FoundSums.{places-low, sums-told}
use Rattle.show_sums.proofs.sum_sections.sums.page_sums.Goals as goal

pub found_sums-requires-clause-wanted : goal.found_sums-requires-clause-wanted
found_sums-requires-clause-wanted c =
    subst (λ (l : List WantedSum). All (IsWanted c.args.setup.now c.args.cards.now) l) (sym c.deref.ensures.value)
    (c.in_ok-wanted.ensures c.args.setup.now c.args.cards.now c.requires.explained).each

pub sums_of-requires-clause-places : goal.sums_of-requires-clause-places
sums_of-requires-clause-places c =
    subst (λ (l : List FoundSum). All (λ (one : FoundSum). one.wanted.place < 32) l) (sym c.deref-2.ensures.value)
    (places-low c.args.setup.now c.args.cards.now c.in_ok-wanted.wanted.items c.in_ok-found.found.items
    (c.in_ok-found.ensures.wanted ∙ c.deref.ensures.value)
    (c.in_ok-wanted.ensures c.args.setup.now c.args.cards.now c.requires.explained).each)

pub sums_of-requires-clause-found : goal.sums_of-requires-clause-found
sums_of-requires-clause-found c =
    subst (λ (l : List FoundSum). All (IsFoundSum c.args.setup.now c.args.cards.now) l) (sym c.deref-2.ensures.value)
    c.in_ok-found.ensures.found

pub returns : goal.returns
returns c =
    sums-told c.args.setup.now c.args.totals.now c.args.cards.now c.args.told.now c.in_ok-wanted.wanted.items c.deref.result.now
    c.in_ok-found.found.items c.deref-2.result.now c.in_ok-sums.sums.items
    (c.in_ok-wanted.ensures c.args.setup.now c.args.cards.now c.requires.explained) c.deref.ensures.value c.in_ok-found.ensures.wanted
    c.deref-2.ensures.value c.in_ok-sums.ensures
