-- The rows of a line, byte by byte.
use Rattle.std.proofs.Common.{◌≡◌, ◌∙◌, sym, ap, ℕ, ◌+◌, ◌<◌, ◌==◌, ◌&&◌, Bool, true, false, List, [], ◌∷◌, ◌++◌, append_assoc, add-one, get_or, length, drop, drop-cons}
use Rattle.std.specs.Prelude.{if◌then◌else◌, not}
use Rattle.show_sections.specs.CycleSections.Helper.{TakesByte}
use Rattle.show_sections.specs.CycleSections.Rows.{gap, in_rows, is_inside}

-- what follows a byte, by whether it divides things
abbrev after : (byte : ℕ) (inside : Bool) (spaces : ℕ) (others : List ℕ) → Bool → List ℕ
after byte inside spaces others divides =
    if divides then in_rows inside (spaces + 1) others else gap spaces ++ byte ∷ in_rows (is_inside inside byte) 0 others

-- a space that divides things
pub space_taken : (byte : ℕ) (inside : Bool) (spaces : ℕ) (rows : List ℕ) → ((byte == 32) && not inside) ≡ true
    → TakesByte byte inside spaces rows inside (spaces + 1) rows
space_taken byte inside spaces rows e = record {
  goes_on = λ others. ap (λ (b : Bool). rows ++ after byte inside spaces others b) (sym e);
}

-- any other byte
pub byte_taken : (byte : ℕ) (inside now : Bool) (spaces : ℕ) (rows new : List ℕ) → ((byte == 32) && not inside) ≡ false
    → new ≡ rows ++ gap spaces ++ byte ∷ [] → now ≡ is_inside inside byte
    → TakesByte byte inside spaces rows now 0 new
byte_taken byte inside now spaces rows new e is same = record {
  goes_on = λ others.
      let rest : List ℕ = in_rows (is_inside inside byte) 0 others in
      let written : new ++ in_rows now 0 others ≡ (rows ++ gap spaces ++ byte ∷ []) ++ rest =
      ap (λ (b : Bool). new ++ in_rows b 0 others) same ∙ ap (λ (l : List ℕ). l ++ rest) is in
      let joined : (rows ++ gap spaces ++ byte ∷ []) ++ rest ≡ rows ++ (gap spaces ++ byte ∷ rest) = simp append_assoc in
      written ∙ joined ∙ ap (λ (b : Bool). rows ++ after byte inside spaces others b) (sym e);
}

-- one byte more of a line
pub byte_more : (line : List ℕ) (place byte : ℕ) (inside now : Bool) (spaces more : ℕ) (rows new all : List ℕ) → place < length line
    → byte ≡ get_or line place 0 → TakesByte byte inside spaces rows now more new
    → rows ++ in_rows inside spaces (drop place line) ≡ all → new ++ in_rows now more (drop (place + 1) line) ≡ all
byte_more line place byte inside now spaces more rows new all less at takes before =
    takes.goes_on (drop (place + 1) line)
    ∙ ap (λ (l : List ℕ). rows ++ in_rows inside spaces l) (sym (left line place byte less at)) ∙ before
  where
    left : (line : List ℕ) (place byte : ℕ) → place < length line → byte ≡ get_or line place 0
        → drop place line ≡ byte ∷ drop (place + 1) line
    left line place byte less at = rw (at, add-one, drop-cons line place 0)
