-- A word for each number of a range.
use Rattle.std.proofs.Common.{◌≡◌, ◌∙◌, sym, ap, ℕ, ◌+◌, List, ◌++◌, append-nil, flat_map}
use Rattle.std.specs.List.{range_with_len}
use Rattle.std.proofs.lemmas.List.{flat_map_more}
use Rattle.show_drawings.proofs.MarkupWords.Pieces.{numbers_more}

pub numbers_none : (word : ℕ → List ℕ) (old : List ℕ) (first : ℕ) → old ≡ old ++ flat_map word (range_with_len first 0)
numbers_none word old first = sym (append-nil old)

-- one number more
pub one_more : (word : ℕ → List ℕ) (old mid new : List ℕ) (first count : ℕ)
    → mid ≡ old ++ flat_map word (range_with_len first count) → new ≡ mid ++ word (first + count)
    → new ≡ old ++ flat_map word (range_with_len first (count + 1))
one_more word old mid new first count before one =
    one ∙ ap (λ (l : List ℕ). l ++ word (first + count)) before
    ∙ flat_map_more word old (range_with_len first count) (first + count)
    ∙ ap (λ (l : List ℕ). old ++ flat_map word l) (sym (numbers_more first count))
