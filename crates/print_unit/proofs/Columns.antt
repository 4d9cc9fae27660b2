-- The set of the rows that a wheel received.
use Rattle.std.proofs.Common.{◌≡◌, ◌∙◌, refl, ℕ, ◌+◌, ◌<◌, Bool, true, false, List, [], ◌∷◌, length, map, get_or, drop, if◌then◌else◌, ap, arith}
use Rattle.std.proofs.lemmas.List.{drop_more}
use Rattle.card_code.specs.CardCode.{has_row, with_row}
use Rattle.card_code.specs.Columns.{column_of, moved}
use Rattle.card_code.specs.Rows.{rows, row_number, passing_place}
use Rattle.card_code.specs.declared.row.Row.{Row}
use Rattle.card_code.specs.declared.row.Row.TheVariants as row
use Rattle.net.specs.HubSets.{is_bit}
use Rattle.print_unit.specs.RowSets.{rows_in}
use Rattle.print_unit.specs.ZeroControl.{received_set, set_from}

-- one row more
set_from-more : (received : List Bool) (i next : ℕ) → next ≡ i + 1 → i < 12 → length received ≡ 12
    → set_from (drop i rows) (drop i received)
    ≡ (if get_or received i false
    then with_row (set_from (drop next rows) (drop next received)) (row_number (get_or rows i row.Zero))
    else set_from (drop next rows) (drop next received))
set_from-more received i next is_next below long =
    rw (is_next, drop_more rows i row.Zero below, drop_more received i false (omega (arith, below, long))) refl

-- a row that the wheel received
pub set_from-with : (received : List Bool) (i next old new : ℕ) → next ≡ i + 1 → i < 12 → length received ≡ 12
    → get_or received i false ≡ true
    → old ≡ set_from (drop next rows) (drop next received)
    → new ≡ with_row old (row_number (get_or rows i row.Zero))
    → new ≡ set_from (drop i rows) (drop i received)
set_from-with received i next old new is_next below long there before is_new =
    is_new ∙ rw (set_from-more received i next is_next below long, there, before) refl

-- a row that it did not receive
pub set_from-without : (received : List Bool) (i next old : ℕ) → next ≡ i + 1 → i < 12 → length received ≡ 12
    → get_or received i false ≡ false
    → old ≡ set_from (drop next rows) (drop next received)
    → old ≡ set_from (drop i rows) (drop i received)
set_from-without received i next old is_next below long none before =
    before ∙ rw (set_from-more received i next is_next below long, none) refl

-- the rows of a set are those of its column
moved-received : (others : List Row) (set : ℕ)
    → moved others passing_place row_number set ≡ set_from others (map (λ row. is_bit set (passing_place row)) others)
unfolding is_bit
moved-received [] set = refl
moved-received (row ∷ others) set =
    ap (λ (n : ℕ). if has_row set (passing_place row) then with_row n (row_number row) else n) (moved-received others set)

in_order : (set : ℕ) → map (λ row. is_bit set (passing_place row)) rows ≡ rows_in set
in_order set = refl

pub received-column : (set : ℕ) → column_of set ≡ received_set (rows_in set)
unfolding column_of
received-column set = moved-received rows set ∙ ap (λ (received : List Bool). set_from rows received) (in_order set)
