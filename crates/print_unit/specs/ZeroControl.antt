-- The printed line. A wheel prints the character of the rows that it received, a blank where there is none. Zero control,
-- in card and program cycles: a wheel has significance where its jack LINK is plugged and the wheel on its left has
-- significance or received a figure. Without significance a zero on a wheel with the jack SUPPRESS, and whatever stands
-- on a wheel with the jack SYMBOL, prints blank.
use Rattle.std.specs.Prelude.{ℕ, ◌==◌, ◌&&◌, ◌||◌, not, Bool, true, false, List, [], ◌∷◌, take, drop, count_by, slice_index_or, if◌then◌else◌}
use Rattle.card_code.specs.CardCode.{with_row, print_character}
use Rattle.card_code.specs.Rows.{rows, row_number}
use Rattle.card_code.specs.declared.row.Row.{Row as CardRow}
use Rattle.net.specs.declared.cycle.Cycle.{Cycle}
use Rattle.net.specs.declared.cycle.Cycle.TheVariants.{RunIn, Card, Prog, Head}

-- A print wheel: for each row, in the order of the points (9 down to 0, 11, 12), whether it received it, and whether its
-- jacks are plugged.
pub record Wheel : Type 0 where
  pub received : List Bool
  pub link : Bool
  pub suppress : Bool
  pub symbol : Bool

-- of a list of rows the set of those that were received
abbrev pub set_from : List CardRow → List Bool → ℕ
set_from [] received = 0
set_from (row ∷ others) [] = 0
set_from (row ∷ others) (has ∷ received) =
    if has then with_row (set_from others received) (row_number row) else set_from others received

-- the set of the rows that were received
abbrev pub received_set : List Bool → ℕ
received_set received = set_from rows received

-- the character of the rows that were received; a blank where they are none's
abbrev pub character_of : List Bool → ℕ
character_of received = print_character (received_set received)

-- how many of some rows were received
abbrev pub count_of : List Bool → ℕ
count_of received = count_by (λ has. has) received

-- A figure is exactly one of the rows 9 to 1, which come first, and no other row.
abbrev pub is_figure : List Bool → Bool
is_figure received = (count_of (take 9 received) == 1) && (count_of (drop 9 received) == 0)

-- A zero is row 0, the tenth, and no other row.
abbrev pub is_zero : List Bool → Bool
is_zero received = slice_index_or received 9 false && (count_of received == 1)

-- what a wheel shows, with significance or without
abbrev pub shown : Bool → Wheel → ℕ
shown has wheel =
    if not has && (wheel.symbol || wheel.suppress && is_zero wheel.received) then 32 else character_of wheel.received

-- a wheel has significance where LINK is plugged and its left neighbour gives it; without zero control all have
abbrev pub has_significance : Bool → Bool → Wheel → Bool
has_significance control given wheel = not control || wheel.link && given

-- a wheel gives significance to its right neighbour where it has it or received a figure
abbrev pub gives : Bool → Wheel → Bool
gives has wheel = has || is_figure wheel.received

-- the characters of wheels from the left, the first of which is given significance or not
abbrev pub printed_from : Bool → Bool → List Wheel → List ℕ
printed_from control given [] = []
printed_from control given (wheel ∷ others) =
    shown (has_significance control given wheel) wheel
    ∷ printed_from control (gives (has_significance control given wheel) wheel) others

-- the printed line; nothing is given to the first wheel
abbrev pub printed_line : Bool → List Wheel → List ℕ
printed_line control wheels = printed_from control false wheels

-- zero control works in card and program cycles, not in heading cycles, and not in the run-in
abbrev pub has_zero_control : Cycle → Bool
has_zero_control RunIn = false
has_zero_control Card = true
has_zero_control (Prog level cycle) = true
has_zero_control (Head heading) = false
