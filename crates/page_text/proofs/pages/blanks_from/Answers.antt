use Rattle.std.proofs.Common.{◌∙◌, ◌+◌, ◌-◌, ap, arith}
use Rattle.std.proofs.lemmas.List.{take_all}
use Rattle.page_text.specs.Pages.{without_trailing_blanks}
use Rattle.page_text.proofs.CutTexts.{cut-down}
use Rattle.page_text.proofs.pages.blanks_from.Goals as goal

pub loop-end-init : goal.loop-end-init
loop-end-init c = record {
  within = omega arith;
  same = ap without_trailing_blanks (take_all _ c.args.text.now (omega arith));
}

pub loop-end-preserved : goal.loop-end-preserved
loop-end-preserved c =
    let many = c.loop-end-test.true in
    let none = c.if-printed-gt0.false in
    record {
      within = omega arith;
      same =
          cut-down c.args.text.now (c.loop-end.end - 16) c.loop-end.end (omega arith) c.loop-end.invariant.within
          (λ k low high. c.printed_to-printed.ensures.blank k (omega (arith, low, none)) (omega (arith, high, many)))
          ∙ c.loop-end.invariant.same;
    }

pub returns-then-printed-gt0-clause-same : goal.returns-then-printed-gt0-clause-same
returns-then-printed-gt0-clause-same c =
    let many = c.loop-end-test.true in
    let few = c.printed_to-printed.ensures.few in
    cut-down c.args.text.now (c.loop-end.end - 16 + c.printed_to-printed.result) c.loop-end.end (omega (arith, many, few))
    c.loop-end.invariant.within (λ k low high. c.printed_to-printed.ensures.blank k low (omega (arith, high, many)))
    ∙ c.loop-end.invariant.same
