-- Steps of the loop that copies a text but for a line.
use Rattle.std.proofs.Common.{◌≡◌, ℕ, suc, ◌+◌, ◌<◌, ◌≤◌, List, ◌∷◌, ◌++◌, length, drop, get_or, refl, sym, ap, ◌∙◌, append_assoc, append-nil, subst}
use Rattle.std.proofs.Math.Numerals.{suc-eq-add-one}
use Rattle.std.proofs.Math.Seq.{drop-cons}
use Rattle.std.proofs.Math.ListN.{drop_of_length-le}
use Rattle.fault_slips.specs.LineMarks.Emptied.{emptied, kept, line_left}

-- the copy so far and what is left of the text are the whole copy
abbrev pub CopiedTo : ℕ → List ℕ → List ℕ → ℕ → ℕ → Type 0
CopiedTo line text copy left count = copy ++ emptied left (drop count text) ≡ emptied line text

-- one byte more
pub emptied-cons : (left byte : ℕ) (bytes : List ℕ) → emptied left (byte ∷ bytes) ≡ kept left byte ++ emptied (line_left left byte) bytes
unfolding emptied
emptied-cons left byte bytes = refl

CopiedTo-suc : (line : ℕ) (text copy : List ℕ) (left count byte : ℕ) → count < length text → get_or text count 0 ≡ byte
    → CopiedTo line text copy left count → CopiedTo line text (copy ++ kept left byte) (line_left left byte) (suc count)
CopiedTo-suc line text copy left count byte within is copied =
    let left_is : drop count text ≡ byte ∷ drop (suc count) text = drop-cons text count 0 within ∙ ap (λ b. b ∷ drop (suc count) text) is in
    append_assoc copy (kept left byte) (emptied (line_left left byte) (drop (suc count) text))
    ∙ ap (λ rest. copy ++ rest) (sym (ap (emptied left) left_is ∙ emptied-cons left byte (drop (suc count) text)))
    ∙ copied

pub CopiedTo-more : (line : ℕ) (text copy : List ℕ) (left count byte : ℕ) → count < length text → get_or text count 0 ≡ byte
    → CopiedTo line text copy left count → CopiedTo line text (copy ++ kept left byte) (line_left left byte) (count + 1)
CopiedTo-more line text copy left count byte within is copied =
    subst (CopiedTo line text (copy ++ kept left byte) (line_left left byte)) (suc-eq-add-one count)
    (CopiedTo-suc line text copy left count byte within is copied)

-- the whole text
pub CopiedTo-all : (line : ℕ) (text copy : List ℕ) (left count : ℕ) → length text ≤ count → CopiedTo line text copy left count → copy ≡ emptied line text
unfolding emptied
CopiedTo-all line text copy left count all copied =
    sym (append-nil copy) ∙ ap (λ rest. copy ++ emptied left rest) (sym (drop_of_length-le text all)) ∙ copied
