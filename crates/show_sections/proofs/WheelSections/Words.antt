-- Words as markup, sign by sign.
use Rattle.std.proofs.Common.{add-one, ◌≡◌, ◌∙◌, sym, ap, ℕ, ◌+◌, ◌<◌, List, ◌∷◌, ◌++◌, append_assoc, length, get_or}
use Rattle.std.specs.Prelude.{drop}
use Rattle.std.proofs.Math.Seq.{drop-cons}
use Rattle.show_sections.specs.WheelSections.Words.{linked, sign_text}

-- one sign more
pub linked_more : (words : List ℕ) (place d : ℕ) (mid new whole : List ℕ) → place < length words
    → mid ++ linked (drop place words) ≡ whole → new ≡ mid ++ sign_text (get_or words place d) (drop (place + 1) words)
    → new ++ linked (drop (place + 1) words) ≡ whole
linked_more words place d mid new whole less before one =
    let left : drop place words ≡ get_or words place d ∷ drop (place + 1) words = rw (add-one, drop-cons words place d) in
    ap (λ (l : List ℕ). l ++ linked (drop (place + 1) words)) one
    ∙ append_assoc mid (sign_text (get_or words place d) (drop (place + 1) words)) (linked (drop (place + 1) words))
    ∙ sym (ap (λ (l : List ℕ). mid ++ linked l) left) ∙ before
