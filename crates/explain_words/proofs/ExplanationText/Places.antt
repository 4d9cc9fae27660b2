-- An explanation of a wheel of a line that stands at a page and a line of it.
use Rattle.std.proofs.Common.{◌≡◌, ◌∙◌, ap, subst, ℕ, List}
use Rattle.std.specs.Prelude.{String}
use Rattle.std.specs.declared.alloc.Global.{Global}
use Rattle.hubs.specs.SetupsWords.Wiring.{Wiring}
use Rattle.explain_wheels.specs.declared.explanations.explanation.Explanation.{Explanation}
use Rattle.explain_wheels.specs.declared.explanations.found.FoundLine.{FoundLine}
use Rattle.explain_words.specs.ExplanationText.ExplanationTexts.{IsTextOf}

pub explained_there : (wiring : Wiring) (asked : List (String Global × Wiring)) (deck : List (List ℕ)) (found other : FoundLine)
    (page line wheel : ℕ) (told : Explanation) (text : List ℕ) → found ≡ other → other.kept.line.page ≡ page
    → other.kept.line.line ≡ line → IsTextOf wiring asked deck found.kept.line.page found.kept.line.line wheel told text
    → IsTextOf wiring asked deck page line wheel told text
explained_there wiring asked deck found other page line wheel told text same at_page at_line is =
    subst (λ (l : ℕ). IsTextOf wiring asked deck page l wheel told text) (ap (λ (f : FoundLine). f.kept.line.line) same ∙ at_line)
    (subst (λ (p : ℕ). IsTextOf wiring asked deck p found.kept.line.line wheel told text)
    (ap (λ (f : FoundLine). f.kept.line.page) same ∙ at_page) is)
