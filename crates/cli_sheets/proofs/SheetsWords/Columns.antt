-- The characters of the columns of a field, one by one.
use Rattle.std.proofs.Common.{◌≡◌, ◌∙◌, sym, ap, ℕ, ◌+◌, ◌-◌, ◌≤◌, List, [], ◌∷◌, ◌++◌, append-nil, append_assoc, map, arith}
use Rattle.std.specs.List.{range_with_len}
use Rattle.std.proofs.lemmas.List.FromFn.{map-range_with_len_more}

-- no column yet
pub column-none : (f : ℕ → ℕ) (old : List ℕ) (first column : ℕ) → column ≡ first
    → old ≡ old ++ map f (range_with_len first (column - first))
column-none f old first column here =
    let none : column - first ≡ 0 = omega (arith, here) in
    sym (append-nil old) ∙ sym (ap (λ (n : ℕ). old ++ map f (range_with_len first n)) none)

-- one column more
pub column-more : (f : ℕ → ℕ) (old mid new : List ℕ) (first column : ℕ) → first ≤ column
    → mid ≡ old ++ map f (range_with_len first (column - first)) → new ≡ mid ++ f column ∷ []
    → new ≡ old ++ map f (range_with_len first (column + 1 - first))
column-more f old mid new first column from before one =
    let more : column + 1 - first ≡ column - first + 1 = omega (arith, from) in
    one ∙ ap (λ (l : List ℕ). l ++ f column ∷ []) before
    ∙ append_assoc old (map f (range_with_len first (column - first))) (f column ∷ [])
    ∙ ap (λ (l : List ℕ). old ++ l) (sym (map-range_with_len_more f first (column - first) column (omega (arith, from))))
    ∙ sym (ap (λ (n : ℕ). old ++ map f (range_with_len first n)) more)
