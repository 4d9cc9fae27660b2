use Rattle.std.proofs.Common.{◌∙◌, sym, ap, subst, List, [], map, arith}
use Rattle.std.specs.Prelude.{drop}
use Rattle.std.specs.List.{AllZip}
use Rattle.std.proofs.lemmas.List.{take_all}
use Rattle.std.proofs.lemmas.List.Elements.{All-drop, All-same}
use Rattle.explain_ledgers.specs.LedgersWords.Running.{IsKept, asked_of}
use Rattle.show_sums.specs.SumSections.WantedSums.{IsSumFor, wanted_of}
use Rattle.show_sums.specs.declared.sum_sections.sums.FoundSum.{FoundSum}
use Rattle.show_sums.proofs.SumSections.FoundSums.{are-accounts, has-cycles, next-asked, rest-asked, some-left, sums-more}
use Rattle.show_sums.proofs.sum_sections.sums.sums_of.Goals as goal

pub ledgers_before-requires-clause-has : goal.ledgers_before-requires-clause-has
ledgers_before-requires-clause-has c =
    has-cycles c.args.setup.now c.args.cards.now c.args.totals.now c.args.found.now c.in_ok-asked.asked.items c.deref.result.now
    c.in_ok-asked.ensures c.deref.ensures.value c.requires.found

pub ledgers_before-requires-clause-accounts : goal.ledgers_before-requires-clause-accounts
ledgers_before-requires-clause-accounts c =
    are-accounts c.args.totals.now c.args.found.now c.in_ok-asked.asked.items c.deref.result.now c.in_ok-asked.ensures c.deref.ensures.value
    c.requires.accounts c.requires.places

pub loop-one-init : goal.loop-one-init
loop-one-init c = record {
  sums = subst (AllZip (IsSumFor c.args.setup.now c.args.totals.now c.args.cards.now) []) (sym c.new-sums.ensures.items) tt;
  asked = c.in_ok-kept.ensures.asked ∙ c.deref.ensures.value ∙ c.in_ok-asked.ensures;
  kept = c.in_ok-kept.ensures.kept;
}

pub remove-requires : goal.remove-requires
remove-requires c =
    let low =
    some-left c.args.totals.now c.args.found.now c.loop-one.one-index c.loop-one.kept.items c.loop-one-test.true c.loop-one.invariant.asked in
    omega (arith, low)

pub sum_of-requires-clause-asked : goal.sum_of-requires-clause-asked
sum_of-requires-clause-asked c =
    ap asked_of c.remove.ensures.value
    ∙ next-asked c.args.totals.now c.args.found.now c.loop-one.one-index c.loop-one.kept.items c.loop-one-test.true
    c.loop-one.invariant.asked _ c.remove.result

pub sum_of-requires-clause-kept : goal.sum_of-requires-clause-kept
sum_of-requires-clause-kept c =
    let low =
    some-left c.args.totals.now c.args.found.now c.loop-one.one-index c.loop-one.kept.items c.loop-one-test.true c.loop-one.invariant.asked in
    subst (IsKept c.args.setup.now c.args.cards.now 100) (sym c.remove.ensures.value) (c.loop-one.invariant.kept 0 c.remove.result low)

pub loop-one-preserved : goal.loop-one-preserved
loop-one-preserved c = record {
  sums =
      sums-more c.args.setup.now c.args.totals.now c.args.cards.now c.args.found.now c.loop-one.one-index _ c.loop-one.sums.items
      c.push.new.self.items c.in_ok-sum.sum c.loop-one-test.true c.loop-one.invariant.sums c.in_ok-sum.ensures c.in_ok-push.ensures.items;
  asked =
      ap (map asked_of) c.remove.ensures.items
      ∙ rest-asked c.args.totals.now c.args.found.now c.loop-one.one-index c.loop-one.kept.items c.loop-one-test.true
      c.loop-one.invariant.asked;
  kept =
      All-same (IsKept c.args.setup.now c.args.cards.now 100) c.remove.new.self.items (drop 1 c.loop-one.kept.items) c.remove.ensures.items
      (All-drop (IsKept c.args.setup.now c.args.cards.now 100) 1 c.loop-one.kept.items c.loop-one.invariant.kept);
}

pub returns : goal.returns
returns c =
    subst (λ (l : List FoundSum). AllZip (IsSumFor c.args.setup.now c.args.totals.now c.args.cards.now) (map wanted_of l) c.loop-one.sums.items)
    (take_all c.loop-one.one-index c.args.found.now c.loop-one-test.false) c.loop-one.invariant.sums
