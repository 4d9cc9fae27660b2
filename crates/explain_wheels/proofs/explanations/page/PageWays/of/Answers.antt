use Rattle.std.proofs.Common.{◌∙◌, sym, ap, subst, ◌+◌, [], ◌∷◌, ◌++◌, take}
use Rattle.std.proofs.lemmas.List.{take_more}
use Rattle.explain_wheels.specs.ExplanationsWords.Pages.{HasPage}
use Rattle.explain_wheels.specs.declared.explanations.found.FoundLine.{FoundLine}
use Rattle.explain_wheels.proofs.ExplanationsWords.PageLines.{AreLinesTo, lines-all, lines-more}
use Rattle.explain_wheels.proofs.explanations.page.PageWays.of.Goals as goal

pub loop-line-preserved : goal.loop-line-preserved
loop-line-preserved c =
    let found = c.deref-line-items.result.now in
    let place = c.loop-line.line-index in
    let line = c.line-item.result in
    let more =
    subst (AreLinesTo c.args.setup.now found (place + 1)) (sym c.in_ok-push.ensures.items)
    (lines-more c.args.setup.now c.loop-line.lines.items c.in_ok-of.field-0 found place line c.loop-line.invariant.found
    c.loop-line.invariant.ways
    (take_more found place line c.loop-line-test.true
    ∙ ap (λ (x : FoundLine). take place found ++ x ∷ []) (sym c.line-item.is)) c.in_ok-of.ensures.line c.in_ok-of.ensures.ways) in
    record { found = more.found; ways = more.ways }

pub returns-clause-page : goal.returns-clause-page
returns-clause-page c =
    let found = c.deref-line-items.result.now in
    lines-all c.args.setup.now c.args.cards.now c.args.page c.loop-line.lines.items found c.loop-line.line-index
    c.loop-line.invariant.found c.loop-line.invariant.ways c.loop-line-test.false
    (subst (HasPage c.args.setup.now c.args.cards.now c.args.page) (sym c.deref-line-items.ensures.value) c.in_ok-found.ensures)

pub returns-clause-some : goal.returns-clause-some
returns-clause-some c =
    let found = c.deref-line-items.result.now in
    record {
      deck = c.args.cards.now;
      page = c.args.page;
      is =
          lines-all c.args.setup.now c.args.cards.now c.args.page c.loop-line.lines.items found c.loop-line.line-index
          c.loop-line.invariant.found c.loop-line.invariant.ways c.loop-line-test.false
          (subst (HasPage c.args.setup.now c.args.cards.now c.args.page) (sym c.deref-line-items.ensures.value) c.in_ok-found.ensures);
    }
