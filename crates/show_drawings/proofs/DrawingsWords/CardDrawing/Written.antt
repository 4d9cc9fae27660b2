-- What a text gains of holes and characters.
use Rattle.std.proofs.Common.{suc, ◌≡◌, ◌∙◌, sym, ap, refl, Bool, true, false, ℕ, ◌+◌, ◌<◌, List, [], ◌∷◌, ◌++◌, append_assoc, append-nil, flat_map, get_or, length, take}
use Rattle.std.specs.Prelude.{if◌then◌else◌, map}
use Rattle.std.proofs.lemmas.List.{map-append, take_more}
use Rattle.std.proofs.lemmas.List.Concat.{flat_map-append}
use Rattle.card_code.specs.CardCode.{has_row, print_character}
use Rattle.card_code.specs.Rows.{row_number}
use Rattle.card_code.specs.declared.row.Row.{Row}
use Rattle.show_drawings.specs.MarkupWords.Pieces.{numbered_words}
use Rattle.show_drawings.specs.DrawingsWords.CardDrawing.Drawings.{characters_of, hole_text}
use Rattle.show_drawings.specs.DrawingsWords.CardDrawing.Helper.{column_text, row_text}
use Rattle.show_drawings.specs.DrawingsWords.CardDrawing.Holes.{hole_in, holes_from, rows_down}

-- a row of a column is written by its hole
row_is : (column punched : ℕ) (row : Row) → row_text column punched row ≡ flat_map hole_text (hole_in column punched row)
row_is column punched row = by (has_row punched (row_number row))
  where
    by : (b : Bool) → (if b then hole_text (record { column = column; row = row }) else [])
        ≡ flat_map hole_text (if b then record { column = column; row = row } ∷ [] else [])
    by true = sym (append-nil (hole_text (record { column = column; row = row })))
    by false = refl

rows_are : (column punched : ℕ) (rows : List Row)
    → flat_map (row_text column punched) rows ≡ flat_map hole_text (flat_map (hole_in column punched) rows)
rows_are column punched [] = refl
rows_are column punched (row ∷ rows) =
    ap (λ (l : List ℕ). l ++ flat_map (row_text column punched) rows) (row_is column punched row)
    ∙ ap (λ (l : List ℕ). flat_map hole_text (hole_in column punched row) ++ l) (rows_are column punched rows)
    ∙ sym (flat_map-append hole_text (hole_in column punched row) (flat_map (hole_in column punched) rows))

-- columns are written by their holes
pub columns_are : (column : ℕ) (columns : List ℕ)
    → numbered_words column_text column columns ≡ flat_map hole_text (holes_from column columns)
columns_are column [] = refl
columns_are column (punched ∷ others) =
    ap (λ (l : List ℕ). l ++ numbered_words column_text (column + 1) others) (rows_are column punched rows_down)
    ∙ ap (λ (l : List ℕ). flat_map hole_text (flat_map (hole_in column punched) rows_down) ++ l) (columns_are (column + 1) others)
    ∙ sym (flat_map-append hole_text (flat_map (hole_in column punched) rows_down) (holes_from (column + 1) others))

-- one character more
pub characters_more : (columns : List ℕ) (place d : ℕ) (old mid new : List ℕ) → place < length columns
    → mid ≡ old ++ characters_of (take place columns) → new ≡ mid ++ print_character (get_or columns place d) ∷ []
    → new ≡ old ++ characters_of (take (place + 1) columns)
characters_more columns place d old mid new less before pushed =
    pushed ∙ ap (λ (l : List ℕ). l ++ print_character (get_or columns place d) ∷ []) before
    ∙ append_assoc old (characters_of (take place columns)) (print_character (get_or columns place d) ∷ [])
    ∙ ap (λ (l : List ℕ). old ++ l)
    (sym (map-append print_character (take place columns) (get_or columns place d ∷ []))
    ∙ ap (λ (l : List ℕ). map print_character l) (sym (take_more columns place d less)))

-- as many characters as columns
pub characters_long : (columns : List ℕ) → length (characters_of columns) ≡ length columns
characters_long [] = refl
characters_long (column ∷ others) = ap suc (characters_long others)
