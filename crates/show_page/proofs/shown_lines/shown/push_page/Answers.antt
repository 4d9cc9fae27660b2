use Rattle.show_page.proofs.ShownLines.Gains.{page_gained}
use Rattle.show_page.proofs.shown_lines.shown.push_page.Goals as goal

pub returns : goal.returns
returns c =
    page_gained c.args.setup.now c.args.cards.now c.push_lines.result c.args.page c.in_ok-ways.ways.lines.items c.deref.result.now
    c.args.lines.now.items c.push_lines.new.lines.items c.args.found.now.items c.push_lines.new.found.items
    c.in_ok-ways.ensures.page c.deref.ensures.value c.push_lines.ensures
