-- The rows of a setup's wires after a write to one of them.
use Rattle.std.proofs.Common.{◌≡◌, ap, sym, ◌∙◌, ℕ, ◌<◌, List, [], ◌∷◌, ◌++◌, get_or, set, map, length}
use Rattle.std.proofs.Common.{get_or-set_other, get_or-set_same}
use Rattle.std.proofs.lemmas.List.{map-set, get_or-map, length-map}
use Rattle.smallvec.specs.SmallVec.{SmallVec}
use Rattle.hubs.specs.SetupsWords.Rows.{numbers_at, SameRows, RowGains}

-- a row that was read at a place
pub row-numbers : (rows : List (SmallVec ℕ)) (place : ℕ) (row : SmallVec ℕ) → place < length rows
    → row ≡ get_or rows place row → row.items ≡ numbers_at rows place
row-numbers rows place row within read =
    let items : SmallVec ℕ → List ℕ = λ v. v.items in
    ap items read ∙ sym (get_or-map items rows place row [] within)

-- a row that was read at a place and is written back with a number more
pub RowGains-set : (old made : List (SmallVec ℕ)) (place number : ℕ) (row new : SmallVec ℕ)
    → place < length made → SameRows old made → row ≡ get_or made place row
    → new.items ≡ row.items ++ number ∷ [] → RowGains old (set made place new) place number
RowGains-set old made place number row new within same read gains =
    let items : SmallVec ℕ → List ℕ = λ v. v.items in
    let in_map : place < length (map items made) = rw (length-map made items) within in
    let read_as : row.items ≡ numbers_at old place = row-numbers made place row within read ∙ same place in
    record {
      here =
          rw (map-set items made place new, get_or-set_same (map items made) place new.items [] in_map)
          (gains ∙ ap (λ (numbers : List ℕ). numbers ++ number ∷ []) read_as);
      others =
          λ other elsewhere.
          rw (map-set items made place new, get_or-set_other (map items made) place other new.items [] elsewhere)
          (same other);
    }
