use Rattle.std.proofs.Common.{subst, sym, List}
use Rattle.std.specs.Prelude.{All}
use Rattle.explain_wheels.specs.ExplanationsWords.Pages.{AreFoundLines}
use Rattle.explain_wheels.specs.ExplanationsWords.PlacedInRun.{PrintsLine}
use Rattle.page_text.specs.declared.placed_lines.placed_line.PlacedLine.{PlacedLine}
use Rattle.show_page.proofs.ShownLines.Gains.{all_print, all_shown}
use Rattle.show_page.proofs.shown_lines.shown.all_lines.Goals as goal

pub find_lines-requires-clause-printed : goal.find_lines-requires-clause-printed
find_lines-requires-clause-printed c =
    subst (λ (l : List PlacedLine). All (PrintsLine c.args.setup.now c.args.cards.now) l) (sym c.deref.ensures.value)
    (all_print c.args.setup.now c.args.cards.now c.in_ok-lines.lines.items c.in_ok-lines.ensures.lines)

pub returns : goal.returns
returns c =
    all_shown c.args.setup.now c.args.cards.now c.in_ok-lines.lines.items c.in_ok-found.found.items c.in_ok-lines.ensures.lines
    (subst (λ (l : List PlacedLine). AreFoundLines c.args.setup.now c.args.cards.now l c.in_ok-found.found.items) c.deref.ensures.value
    c.in_ok-found.ensures)
