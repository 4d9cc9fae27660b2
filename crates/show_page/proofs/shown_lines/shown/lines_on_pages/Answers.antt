use Rattle.std.proofs.Common.{sym, subst, ℕ, List, Some, get_or, take}
use Rattle.std.proofs.lemmas.List.{take_all, take_more}
use Rattle.show_page.specs.ShownLines.Shown.{AreShown}
use Rattle.show_page.proofs.ShownLines.Gains.{none_shown, page_shown}
use Rattle.show_page.proofs.shown_lines.shown.lines_on_pages.Goals as goal

pub loop-page-init : goal.loop-page-init
loop-page-init c = rw (c.new-lines.ensures.items, c.new-found.ensures.items) (none_shown c.args.setup.now c.args.cards.now)

pub loop-page-preserved : goal.loop-page-preserved
loop-page-preserved c =
    let pages = c.args.pages.now in
    let place = c.loop-page.page-index in
    let page = get_or pages place 0 in
    subst (λ (l : List ℕ). AreShown c.args.setup.now c.args.cards.now (Some l) c.push_page.new.lines.items c.push_page.new.found.items)
    (sym (take_more pages place 0 c.loop-page-test.true))
    (page_shown c.args.setup.now c.args.cards.now (take place pages) page c.loop-page.lines.items c.push_page.new.lines.items
    c.loop-page.found.items c.push_page.new.found.items c.loop-page.invariant c.in_ok-push_page.ensures)

pub returns : goal.returns
returns c =
    subst (λ (l : List ℕ). AreShown c.args.setup.now c.args.cards.now (Some l) c.loop-page.lines.items c.loop-page.found.items)
    (take_all c.loop-page.page-index c.args.pages.now c.loop-page-test.false) c.loop-page.invariant
