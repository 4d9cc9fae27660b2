use Rattle.std.proofs.Common.{subst, List}
use Rattle.std.proofs.lemmas.List.{take_all}
use Rattle.explain_words.specs.declared.explanation_text.text.ToldWheel.{ToldWheel}
use Rattle.show_sums.specs.SumSections.WantedSums.{AreWantedFor}
use Rattle.show_sums.proofs.SumSections.Wanted.{wanted-more, wanted-none}
use Rattle.show_sums.proofs.sum_sections.sums.wanted_sums.Goals as goal

pub loop-one-init : goal.loop-one-init
loop-one-init c = λ wiring deck explained. wanted-none c.args.totals.now c.new-wanted.result.items c.new-wanted.ensures.items wiring deck

pub loop-one-preserved : goal.loop-one-preserved
loop-one-preserved c =
    wanted-more c.args.totals.now c.args.told.now c.loop-one.one-index c.one-item.result c.loop-one.wanted.items
    c.want_sum.new.wanted.items c.loop-one-test.true c.one-item.is c.in_ok-want_sum.ensures c.loop-one.invariant

pub returns : goal.returns
returns c = λ wiring deck explained.
    subst (λ (l : List ToldWheel). AreWantedFor wiring c.args.totals.now deck l c.loop-one.wanted.items)
    (take_all c.loop-one.one-index c.args.told.now c.loop-one-test.false) (c.loop-one.invariant wiring deck explained)
