-- The cycle that printed the line of a wheel that is explained is found.
use Rattle.std.proofs.Common.{◌≡◌, subst, refl, List, ℕ}
use Rattle.std.specs.Prelude.{All}
use Rattle.std.proofs.lemmas.List.Elements.{All-contains}
use Rattle.explain_wheels.specs.ExplanationsWords.PlacedInRun.{PlacedLinesArePrinted, PrintsNoneAt}
use Rattle.explain_wheels.specs.declared.explanations.explanation.Explanation.{Explanation}
use Rattle.machine.specs.Kept.{IsElsewhere}
use Rattle.machine.proofs.OneOutcome.{MachineLines-one}
use Rattle.page_text.specs.declared.placed_lines.placed_line.PlacedLine.{PlacedLine}
use Rattle.hubs.specs.SetupsWords.Wiring.{Wiring}
use Rattle.show_sums.specs.SumSections.Sums.{IsExplained}

-- it can't be that no line stands there
pub stands_there : (wiring : Wiring) (deck : List (List ℕ)) (why : Explanation) → PlacedLinesArePrinted → IsExplained wiring deck why
    → PrintsNoneAt wiring deck why.line.page why.line.line → ⊥
stands_there wiring deck why law is none =
    let prints = law wiring deck why.cards why.cycle why.line is.run in
    let same : none.lines ≡ prints.lines = MachineLines-one wiring deck none.lines prints.lines none.run prints.run in
    let elsewhere : All (IsElsewhere why.line.page why.line.line) prints.lines =
    subst (λ (l : List PlacedLine). All (IsElsewhere why.line.page why.line.line) l) same none.elsewhere in
    All-contains (IsElsewhere why.line.page why.line.line) prints.lines why.line elsewhere prints.printed (refl, refl)
