use Rattle.std.proofs.Common.{sym, ◌∙◌, arith}
use Rattle.page_text.proofs.CutTexts.{cut_shorter, cut_whole, cut_none}
use Rattle.page_text.proofs.pages.without_trailing_blanks.Goals as goal
use Rattle.page_text.proofs.pages.without_trailing_blanks.Goals.{then-loop-end-test+else-text-end-eq-BLANK, else-loop-end-test}

pub loop-end-init : goal.loop-end-init
loop-end-init c = record { within = c.blanks_from-end.ensures.within; same = c.blanks_from-end.ensures.same }

pub loop-end-preserved : goal.loop-end-preserved
loop-end-preserved c = record {
  within = omega arith;
  same = cut_shorter c.args.text.now c.loop-end.end c.loop-end-test.true c.loop-end.invariant.within
      c.if-text-end-eq-BLANK.true ∙ c.loop-end.invariant.same;
}

pub returns : goal.returns
returns c = elim c.loop-end-test.branch [
  | then-loop-end-test+else-text-end-eq-BLANK w ↦
      sym (cut_whole c.args.text.now c.loop-end.end w.loop-end-test.true c.loop-end.invariant.within
      w.if-text-end-eq-BLANK.false) ∙ c.loop-end.invariant.same
  | else-loop-end-test w ↦ cut_none c.args.text.now c.loop-end.end w.loop-end-test.false ∙ c.loop-end.invariant.same
]
