use Rattle.std.proofs.Common.{◌∙◌, ap, arith, ◌++◌, ◌∷◌, [], append_assoc, ◌≡◌}
use Rattle.page_text.specs.Walking.{rest_after_lines, walked_lines}
use Rattle.page_text.proofs.Walks.{rest_after_lines-more, none_after, none_walked, walked_lines-more}
use Rattle.page_text.proofs.pages.push_page.Goals as goal

pub loop-line-init : goal.loop-line-init
loop-line-init c = record {
  left = none_after c.args.lines.now c.args.page;
  bytes = none_walked c.args.lines.now c.args.page c.args.out.now.items;
}

pub loop-line-preserved : goal.loop-line-preserved
loop-line-preserved c = record {
  left = c.take_at.ensures.left
      ∙ rest_after_lines-more c.args.lines.now c.loop-line.left.now c.args.page c.loop-line.line c.loop-line.invariant.left;
  bytes = walked_lines-more c.args.lines.now c.loop-line.left.now c.args.page c.loop-line.line c.take_at.result.0.now _ _ _
      c.loop-line.invariant.left c.take_at.ensures.text c.loop-line.invariant.bytes c.in_ok-push_line.ensures;
}

pub returns-clause-bytes : goal.returns-clause-bytes
returns-clause-bytes c =
    let all : c.loop-line.line ≡ c.args.form_lines = omega (arith, c.loop-line-test.false, c.loop-line.auto.line-end) in
    c.in_ok-push.ensures.items
    ∙ ap (λ bytes. bytes ++ 12 ∷ [])
    (c.loop-line.invariant.bytes ∙ ap (λ n. c.args.out.now.items ++ walked_lines c.args.lines.now c.args.page n) all)
    ∙ append_assoc c.args.out.now.items (walked_lines c.args.lines.now c.args.page c.args.form_lines) (12 ∷ [])

pub returns-clause-left : goal.returns-clause-left
returns-clause-left c =
    let all : c.loop-line.line ≡ c.args.form_lines = omega (arith, c.loop-line-test.false, c.loop-line.auto.line-end) in
    c.loop-line.invariant.left ∙ ap (rest_after_lines c.args.lines.now c.args.page) all
