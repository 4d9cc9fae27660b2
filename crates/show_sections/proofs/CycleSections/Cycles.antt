-- One cycle more.
use Rattle.std.proofs.Common.{◌≡◌, ◌∙◌, sym, ap, ℕ, ◌+◌, List, ◌∷◌, ◌++◌, append_assoc}
use Rattle.show_sections.specs.CycleSections.Sections.{section_text, sections_text}

-- the line of a cycle is the first of those that are left
pub one_cycle_more : (number first shown all : ℕ) (line : List ℕ) (lines others : List (List ℕ)) (mid new whole : List ℕ)
    → lines ≡ line ∷ others
    → mid ++ sections_text number first shown all lines ≡ whole
    → new ≡ mid ++ section_text number first shown all line
    → new ++ sections_text (number + 1) first shown all others ≡ whole
one_cycle_more number first shown all line lines others mid new whole cut before one =
    let rest = sections_text (number + 1) first shown all others in
    ap (λ (l : List ℕ). l ++ rest) one ∙ append_assoc mid (section_text number first shown all line) rest
    ∙ ap (λ (l : List (List ℕ)). mid ++ sections_text number first shown all l) (sym cut) ∙ before
