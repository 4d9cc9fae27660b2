use Rattle.std.proofs.Common.{◌∙◌, sym, ap, subst, [], ◌∷◌, ◌++◌, List, map, take}
use Rattle.std.proofs.lemmas.List.{map-append, take_all, take_more}
use Rattle.explain_wheels.specs.ExplanationsWords.Pages.{found_of}
use Rattle.explain_wheels.specs.declared.explanations.explanation.LineWays.{LineWays}
use Rattle.explain_wheels.specs.declared.explanations.found.FoundLine.{FoundLine}
use Rattle.show_page.specs.ShownLines.Helper.{GainsLines}
use Rattle.show_page.proofs.ShownLines.Gains.{GainsLines-more, GainsLines-none}
use Rattle.show_page.proofs.shown_lines.shown.push_lines.Goals as goal

pub loop-line-init : goal.loop-line-init
loop-line-init c = GainsLines-none c.args.lines.now.items c.args.found.now.items

pub loop-line-preserved : goal.loop-line-preserved
loop-line-preserved c =
    let ways = c.args.ways.now in
    let place = c.loop-line.line-index in
    let line = c.line-item.result in
    subst (λ (l : List FoundLine). GainsLines l c.args.lines.now.items c.push_line.new.lines.items c.args.found.now.items
    c.push_line.new.found.items)
    (sym (ap (map found_of) (take_more ways place line c.loop-line-test.true
    ∙ ap (λ (x : LineWays). take place ways ++ x ∷ []) (sym c.line-item.is))
    ∙ map-append found_of (take place ways) (line ∷ [])))
    (GainsLines-more (map found_of (take place ways)) (line.found ∷ []) c.args.lines.now.items c.loop-line.lines.items
    c.push_line.new.lines.items c.args.found.now.items c.loop-line.found.items c.push_line.new.found.items
    c.loop-line.invariant c.in_ok-push_line.ensures)

pub returns : goal.returns
returns c =
    subst (λ (l : List LineWays). GainsLines (map found_of l) c.args.lines.now.items c.loop-line.lines.items c.args.found.now.items
    c.loop-line.found.items)
    (take_all c.loop-line.line-index c.args.ways.now c.loop-line-test.false) c.loop-line.invariant
