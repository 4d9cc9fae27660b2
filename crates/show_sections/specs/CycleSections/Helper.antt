-- A helper word of the code: the rows of a line, byte by byte.
use Rattle.std.specs.Prelude.{◌≡◌, ℕ, Bool, List, ◌∷◌, ◌++◌}
use Rattle.show_sections.specs.CycleSections.Rows.{in_rows}

-- a byte is taken: with the rows of whatever bytes follow it, the new rows are the old ones with those of the byte and these
pub record TakesByte (byte : ℕ) (inside : Bool) (spaces : ℕ) (rows : List ℕ) (inside_now : Bool) (spaces_now : ℕ) (rows_now : List ℕ)
    : Type 0 where
  pub goes_on : (others : List ℕ) → rows_now ++ in_rows inside_now spaces_now others ≡ rows ++ in_rows inside spaces (byte ∷ others)
