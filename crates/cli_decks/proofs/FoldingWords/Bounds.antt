-- How many bytes the lines of a text have.
use Rattle.std.proofs.Common.{◌≡◌, ℕ, ◌+◌, ◌≤◌, suc, List, [], ◌∷◌, length, arith, cond, true, false, ◌==◌}
use Rattle.card_code.specs.Lines.{last_line, lines_of, lines_of_pieces, onto, pieces, without_cr}
use Rattle.cli_decks.specs.FoldingWords.Changes.{count_in, count_of, is_changed}
use Rattle.cli_decks.specs.declared.folding.changes.Change.{Change}

-- the bytes of all lines
abbrev total : List (List ℕ) → ℕ
total [] = 0
total (line ∷ lines) = length line + total lines

count_within : (kind : Change) (line : List ℕ) → count_in kind line ≤ length line
count_within kind [] = omega arith
count_within kind (byte ∷ bytes) =
    let rest = count_within kind bytes in
    elim (is_changed kind byte) as (λ t. cond t (1 + count_in kind bytes) (count_in kind bytes) ≤ suc (length bytes))
    [ true ↦ omega (arith, rest) | false ↦ omega (arith, rest) ]

counts_within : (kind : Change) (lines : List (List ℕ)) → count_of kind lines ≤ total lines
counts_within kind [] = omega arith
counts_within kind (line ∷ lines) = omega (arith, count_within kind line, counts_within kind lines)

total_onto : (byte : ℕ) (some : List (List ℕ)) → total (onto byte some) ≡ 1 + total some
total_onto byte [] = omega arith
total_onto byte (piece ∷ others) = omega arith

total_of_pieces : (text : List ℕ) → total (pieces text) ≤ length text
total_of_pieces [] = omega arith
total_of_pieces (byte ∷ bytes) =
    let rest = total_of_pieces bytes in
    elim (byte == 10) as (λ t. total (cond t ([] ∷ pieces bytes) (onto byte (pieces bytes))) ≤ suc (length bytes))
    [ true ↦ omega (arith, rest) | false ↦ omega (arith, rest, total_onto byte (pieces bytes)) ]

shorter : (piece : List ℕ) → length (without_cr piece) ≤ length piece
shorter [] = omega arith
shorter (byte ∷ []) = elim (byte == 13) as (λ t. length (cond t [] (byte ∷ [])) ≤ 1) [ true ↦ omega arith | false ↦ omega arith ]
shorter (byte ∷ next ∷ bytes) = omega (arith, shorter (next ∷ bytes))

total_of_last : (line : List ℕ) → total (last_line line) ≤ length line
total_of_last [] = omega arith
total_of_last (byte ∷ bytes) = omega arith

total_of_cut : (some : List (List ℕ)) → total (lines_of_pieces some) ≤ total some
total_of_cut [] = omega arith
total_of_cut (piece ∷ []) = omega (arith, total_of_last (without_cr piece), shorter piece)
total_of_cut (piece ∷ next ∷ others) = omega (arith, shorter piece, total_of_cut (next ∷ others))

-- no more bytes of the lines of a text are changed than the text has
pub count_of_lines_within : (kind : Change) (text : List ℕ) → count_of kind (lines_of text) ≤ length text
unfolding lines_of
count_of_lines_within kind text =
    omega (arith, counts_within kind (lines_of_pieces (pieces text)), total_of_cut (pieces text), total_of_pieces text)
