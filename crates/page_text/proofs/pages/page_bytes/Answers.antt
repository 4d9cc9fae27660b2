use Rattle.std.proofs.Common.{◌≡◌, ◌∙◌, ap, arith}
use Rattle.page_text.specs.Pages.{last_page}
use Rattle.page_text.specs.Walking.{walked_pages}
use Rattle.page_text.proofs.Walks.{rest_after_pages-more, no_pages, pages_are_walked, walked_pages-more}
use Rattle.page_text.proofs.pages.page_bytes.Goals as goal

pub loop-page-init : goal.loop-page-init
loop-page-init c =
    let none = no_pages c.args.lines.now c.args.form_lines in
    record { left = none.0; bytes = c.new-out.ensures.items ∙ none.1 }

pub loop-page-preserved : goal.loop-page-preserved
loop-page-preserved c = record {
  left = rest_after_pages-more c.args.lines.now c.loop-page.left.now _ c.args.form_lines c.loop-page.page
      c.loop-page.invariant.left c.in_ok-left.ensures.left;
  bytes = walked_pages-more c.args.lines.now c.loop-page.left.now c.args.form_lines c.loop-page.page _ _
      c.loop-page.invariant.left c.loop-page.invariant.bytes c.in_ok-left.ensures.bytes;
}

pub returns : goal.returns
returns c =
    let all : c.loop-page.page ≡ last_page c.args.lines.now = omega (arith, c.last_page-page-end.ensures, c.loop-page-test.false, c.loop-page.auto.page-end) in
    c.loop-page.invariant.bytes ∙ ap (walked_pages c.args.lines.now c.args.form_lines) all
    ∙ pages_are_walked c.args.form_lines c.args.lines.now c.requires.order
