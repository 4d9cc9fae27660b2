-- The characters of a number's last digits, written one by one.
use Rattle.std.proofs.Common.{◌≡◌, ◌∙◌, sym, ap, ℕ, suc, ◌+◌, ◌/◌, ◌%◌, ◌^◌, List, [], ◌∷◌, ◌++◌, append_assoc, map, arith}
use Rattle.report_definition.specs.Edits.{figure, last_digits}

-- the first of one digit more
pub first-digit : (number count : ℕ) → last_digits (count + 1) number ≡ number / 10 ^ count % 10 ∷ last_digits count number
first-digit number count = let next : count + 1 ≡ suc count = omega arith in ap (λ (n : ℕ). last_digits n number) next

-- one digit more is written
pub digit-more : (old mid new : List ℕ) (number count above : ℕ) → count + 1 ≡ above
    → mid ++ map figure (last_digits above number) ≡ old → new ≡ mid ++ figure (number / 10 ^ count % 10) ∷ []
    → new ++ map figure (last_digits count number) ≡ old
digit-more old mid new number count above next before one =
    ap (λ (l : List ℕ). l ++ map figure (last_digits count number)) one
    ∙ append_assoc mid (figure (number / 10 ^ count % 10) ∷ []) (map figure (last_digits count number))
    ∙ ap (λ (l : List ℕ). mid ++ map figure l) (sym (first-digit number count))
    ∙ ap (λ (n : ℕ). mid ++ map figure (last_digits n number)) next
    ∙ before
