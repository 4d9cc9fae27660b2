-- The holes of a card are where it is punched.
use Rattle.std.proofs.Common.{zero, suc, ◌≡◌, inl, inr, sym, subst, refl, arith, Bool, true, false, ℕ, ◌+◌, ◌-◌, ◌<◌, ◌≤◌, List, [], ◌∷◌, flat_map, get_or, length}
use Rattle.std.specs.Prelude.{Contains, if◌then◌else◌, slice_index_or}
use Rattle.std.proofs.lemmas.List.Elements.{Contains-append_cases, Contains-append_left, Contains-append_right}
use Rattle.card_code.specs.CardCode.{has_row}
use Rattle.card_code.specs.Rows.{row_number}
use Rattle.card_code.specs.declared.row.Row.{Row}
use Rattle.card_code.specs.declared.row.Row.TheVariants.{Zero, One, Two, Three, Four, Five, Six, Seven, Eight, Nine, Eleven, Twelve}
use Rattle.show_drawings.specs.DrawingsWords.CardDrawing.Holes.{Hole, IsPunched, hole_in, holes_from, holes_of, rows_down}

-- nothing is in no list, and one thing alone in a list of one
none_in : (hole : Hole) → Contains [] hole → ⊥
none_in hole in_none = omega (arith, in_none.1)

only_one : (one hole : Hole) → Contains (one ∷ []) hole → one ≡ hole
only_one one hole in_one = by in_one.0 in_one.1 in_one.2
  where
    by : (k : ℕ) → k < length (one ∷ []) → slice_index_or (one ∷ []) k hole ≡ hole → one ≡ hole
    by zero less is = is
    by (suc k) less is = absurd (omega (arith, less))

-- a hole among those of a row of a column, and of some rows
pub record IsOf (column punched : ℕ) (hole : Hole) : Type 0 where
  pub there : hole.column ≡ column
  pub has : has_row punched (row_number hole.row) ≡ true

of_row : (column punched : ℕ) (row : Row) (hole : Hole) → Contains (hole_in column punched row) hole → IsOf column punched hole
of_row column punched row hole = by (has_row punched (row_number row)) refl
  where
    by : (b : Bool) → has_row punched (row_number row) ≡ b
        → Contains (if b then record { column = column; row = row } ∷ [] else []) hole → IsOf column punched hole
    by true e is =
        let same : record { column = column; row = row } ≡ hole = only_one (record { column = column; row = row }) hole is in
        subst (IsOf column punched) same (record { there = refl; has = e })
    by false e is = absurd (none_in hole is)

of_rows : (column punched : ℕ) (rows : List Row) (hole : Hole) → Contains (flat_map (hole_in column punched) rows) hole
    → IsOf column punched hole
of_rows column punched [] hole is = absurd (none_in hole is)
of_rows column punched (row ∷ rows) hole is =
    elim (Contains-append_cases (hole_in column punched row) (flat_map (hole_in column punched) rows) hole is) [
      | inl here ↦ of_row column punched row hole here
      | inr later ↦ of_rows column punched rows hole later
    ]

-- a hole of columns, of which the first has this number
pub record IsFrom (first : ℕ) (columns : List ℕ) (hole : Hole) : Type 0 where
  pub from : first ≤ hole.column
  pub to : hole.column < first + length columns
  pub punched : has_row (get_or columns (hole.column - first) 0) (row_number hole.row) ≡ true

from_columns : (first : ℕ) (columns : List ℕ) (hole : Hole) → Contains (holes_from first columns) hole → IsFrom first columns hole
from_columns first [] hole is = absurd (none_in hole is)
from_columns first (punched ∷ others) hole is =
    elim (Contains-append_cases (flat_map (hole_in first punched) rows_down) (holes_from (first + 1) others) hole is) [
      | inl here ↦
          let of = of_rows first punched rows_down hole here in
          let none : 0 ≡ hole.column - first = omega (arith, of.there) in
          record {
            from = omega (arith, of.there);
            to = omega (arith, of.there);
            punched = subst (λ (k : ℕ). has_row (get_or (punched ∷ others) k 0) (row_number hole.row) ≡ true) none of.has;
          }
      | inr later ↦
          let of = from_columns (first + 1) others hole later in
          let more : suc (hole.column - (first + 1)) ≡ hole.column - first = omega (arith, of.from) in
          record {
            from = omega (arith, of.from);
            to = omega (arith, of.to);
            punched = subst (λ (k : ℕ). has_row (get_or (punched ∷ others) k 0) (row_number hole.row) ≡ true) more of.punched;
          }
    ]

pub all_punched : (columns : List ℕ) (hole : Hole) → Contains (holes_of columns) hole → IsPunched columns hole
all_punched columns hole is =
    let of = from_columns 1 columns hole is in
    record { from = of.from; to = omega (arith, of.to); punched = of.punched }

-- each row is among all
among_rows : (row : Row) → Contains rows_down row
among_rows Twelve = (0, omega arith, refl)
among_rows Eleven = (1, omega arith, refl)
among_rows Zero = (2, omega arith, refl)
among_rows One = (3, omega arith, refl)
among_rows Two = (4, omega arith, refl)
among_rows Three = (5, omega arith, refl)
among_rows Four = (6, omega arith, refl)
among_rows Five = (7, omega arith, refl)
among_rows Six = (8, omega arith, refl)
among_rows Seven = (9, omega arith, refl)
among_rows Eight = (10, omega arith, refl)
among_rows Nine = (11, omega arith, refl)

in_row : (column punched : ℕ) (row : Row) → has_row punched (row_number row) ≡ true
    → Contains {X = Hole} (hole_in column punched row) (record { column = column; row = row })
in_row column punched row has =
    subst (λ (b : Bool).
    Contains {X = Hole} (if b then record { column = column; row = row } ∷ [] else []) (record { column = column; row = row }))
    (sym has) (0, omega arith, refl)

in_rows : (column punched : ℕ) (rows : List Row) (row : Row) → has_row punched (row_number row) ≡ true
    → (k : ℕ) → k < length rows → slice_index_or rows k row ≡ row
    → Contains {X = Hole} (flat_map (hole_in column punched) rows) (record { column = column; row = row })
in_rows column punched [] row has k less is = absurd (omega (arith, less))
in_rows column punched (first ∷ others) row has zero less is =
    Contains-append_left (hole_in column punched first) (flat_map (hole_in column punched) others) (record { column = column; row = row })
    (subst (λ (r : Row). Contains {X = Hole} (hole_in column punched r) (record { column = column; row = row })) (sym is)
    (in_row column punched row has))
in_rows column punched (first ∷ others) row has (suc k) less is =
    Contains-append_right (hole_in column punched first) (flat_map (hole_in column punched) others) (record { column = column; row = row })
    (in_rows column punched others row has k (omega (arith, less)) is)

in_columns : (first : ℕ) (columns : List ℕ) (place : ℕ) (row : Row) → place < length columns
    → has_row (get_or columns place 0) (row_number row) ≡ true
    → Contains {X = Hole} (holes_from first columns) (record { column = first + place; row = row })
in_columns first [] place row less has = absurd (omega (arith, less))
in_columns first (punched ∷ others) zero row less has =
    let among = among_rows row in
    Contains-append_left (flat_map (hole_in first punched) rows_down) (holes_from (first + 1) others)
    (record { column = first + 0; row = row })
    (subst (λ (n : ℕ). Contains {X = Hole} (flat_map (hole_in first punched) rows_down) (record { column = n; row = row })) (omega arith)
    (in_rows first punched rows_down row has among.0 among.1 among.2))
in_columns first (punched ∷ others) (suc place) row less has =
    Contains-append_right (flat_map (hole_in first punched) rows_down) (holes_from (first + 1) others)
    (record { column = first + suc place; row = row })
    (subst (λ (n : ℕ). Contains {X = Hole} (holes_from (first + 1) others) (record { column = n; row = row })) (omega arith)
    (in_columns (first + 1) others place row (omega (arith, less)) has))

pub punched_all : (columns : List ℕ) (hole : Hole) → IsPunched columns hole → Contains (holes_of columns) hole
punched_all columns hole is =
    subst (λ (n : ℕ). Contains {X = Hole} (holes_of columns) (record { column = n; row = hole.row })) (omega (arith, is.from))
    (in_columns 1 columns (hole.column - 1) hole.row (omega (arith, is.from, is.to)) is.punched)
