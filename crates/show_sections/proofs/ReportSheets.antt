-- Sheets, one after another.
use Rattle.std.proofs.Common.{◌≡◌, ◌∙◌, ap, sym, append-nil, ℕ, ◌+◌, List, ◌++◌, flat_map}
use Rattle.std.specs.List.{range_with_len}
use Rattle.std.proofs.lemmas.List.{flat_map_more}
use Rattle.show_drawings.proofs.MarkupWords.Pieces.{numbers_more}

-- no sheet yet, and one more of those from a page on
pub sheets_none : (sheet : ℕ → List ℕ) (old : List ℕ) (first : ℕ) → old ≡ old ++ flat_map sheet (range_with_len first 0)
sheets_none sheet old first = sym (append-nil old)

pub sheets_more : (sheet : ℕ → List ℕ) (old mid new : List ℕ) (first count : ℕ)
    → mid ≡ old ++ flat_map sheet (range_with_len first count) → new ≡ mid ++ sheet (first + count)
    → new ≡ old ++ flat_map sheet (range_with_len first (count + 1))
sheets_more sheet old mid new first count before one =
    one ∙ ap (λ (l : List ℕ). l ++ sheet (first + count)) before
    ∙ flat_map_more sheet old (range_with_len first count) (first + count)
    ∙ ap (λ (l : List ℕ). old ++ flat_map sheet l) (sym (numbers_more first count))
