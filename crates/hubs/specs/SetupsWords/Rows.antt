-- The wires of a setup by rows: at the number of an exit stand the numbers of the entries that its wires lead to.
use Rattle.std.specs.Prelude.{◌≡◌, ◌≢◌, ℕ, List, [], ◌∷◌, ◌++◌, map, slice_index_or}
use Rattle.smallvec.specs.SmallVec.{SmallVec}

-- the numbers at a place; none past the last row
abbrev pub numbers_at : List (SmallVec ℕ) → ℕ → List ℕ
numbers_at rows place = slice_index_or (map (λ v. v.items) rows) place []

-- the same numbers stand at each place
abbrev pub SameRows : List (SmallVec ℕ) → List (SmallVec ℕ) → Type 0
SameRows old new = (place : ℕ) → numbers_at new place ≡ numbers_at old place

-- a number more stands at the place, and the same numbers at any other
pub record RowGains (old new : List (SmallVec ℕ)) (place number : ℕ) : Type 0 where
  pub here : numbers_at new place ≡ numbers_at old place ++ number ∷ []
  pub others : (other : ℕ) → other ≢ place → numbers_at new other ≡ numbers_at old other
