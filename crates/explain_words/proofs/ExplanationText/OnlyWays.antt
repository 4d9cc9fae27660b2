-- No line but that of a row reads as a way.
use Rattle.std.proofs.Common.{◌≡◌, ◌∙◌, sym, ap, subst, arith, refl, append_assoc, ℕ, zero, suc, ◌+◌, ◌<◌, ◌≤◌, ◌^◌, Bool, true, false, List, [], ◌∷◌, ◌++◌, codes, decimal, drop, flat_map, get_or, length, slice_index_or, if◌then◌else◌}
use Rattle.std.specs.Prelude.{All}
use Rattle.std.proofs.lemmas.Bool.Decides.{nat_tests}
use Rattle.std.proofs.lemmas.Fmt.{decimal_is_IsNumeral}
use Rattle.std.proofs.lemmas.List.Elements.{All-append, All-cons, All-nil}
use Rattle.std.proofs.lemmas.Str.Parse.{digit_at}
use Rattle.std.specs.Int.{IsInRange}
use Rattle.std.specs.List.{range_with_len}
use Rattle.explain_wheels.specs.declared.explanations.explanation.Explanation.{Explanation}
use Rattle.hubs.specs.declared.jack.Jack.TheVariants.{Suppress, Symbol}
use Rattle.net.specs.declared.cycle.Cycle.{Cycle}
use Rattle.net.specs.declared.cycle.Cycle.TheVariants.{RunIn, Card, Prog, Head}
use Rattle.hubs.specs.SetupsWords.Wiring.{Wiring, is_plugged}
use Rattle.explain_words.specs.ExplanationText.Closing.{character_line, printed_text, row_listed, rows_listed, suppress_line, symbol_line, zero_control_line}
use Rattle.explain_words.specs.ExplanationText.Laws.{OnlyRowsTellWays, TellsWay}
use Rattle.explain_words.specs.ExplanationText.Text.{cycle_line, row_at, way_text}
use Rattle.explain_words.proofs.ExplanationText.Gains.{range_front}
use Rattle.explain_words.proofs.ExplanationText.Rows.{rows_whole}

-- a line of another front
other_front : (line rest : List ℕ) (first : ℕ) → (first ≡ 114 → ⊥) → line ≡ first ∷ rest → TellsWay line → ⊥
other_front line rest first other is way = other (ap (λ l. get_or l 0 0) (sym is ∙ way.spelled))

-- what follows digits
abbrev AreDigits : List ℕ → Type 0
AreDigits ds = (i : ℕ) → i < length ds → IsInRange 48 57 (get_or ds i 0)

head : (x y : ℕ) (xs ys : List ℕ) → x ∷ xs ≡ y ∷ ys → x ≡ y
head x y xs ys same = ap (λ l. get_or l 0 0) same

tail : (x y : ℕ) (xs ys : List ℕ) → x ∷ xs ≡ y ∷ ys → xs ≡ ys
tail x y xs ys same = ap (drop 1) same

behind : (d : ℕ) (ds : List ℕ) → AreDigits (d ∷ ds) → AreDigits ds
behind d ds are = λ i low. are (suc i) (omega (arith, low))

apart : (ds es rest others : List ℕ) → AreDigits ds → AreDigits es → ds ++ 32 ∷ rest ≡ es ++ 58 ∷ others → ⊥
apart [] [] rest others d e same = let is = head _ _ _ _ same in omega (arith, is)
apart [] (y ∷ es) rest others d e same = let is = head _ _ _ _ same in let range = e 0 (omega arith) in omega (arith, is, range)
apart (x ∷ ds) [] rest others d e same = let is = head _ _ _ _ same in let range = d 0 (omega arith) in omega (arith, is, range)
apart (x ∷ ds) (y ∷ es) rest others d e same = apart ds es rest others (behind x ds d) (behind y es e) (tail _ _ _ _ same)

small : (place : ℕ) → place < 12 → row_at place < 2 ^ 64
small place low = grind (arith, nat_tests, low)

digits : (row : ℕ) → row < 2 ^ 64 → AreDigits (decimal row)
digits row low = λ i less. digit_at (decimal row) i (decimal_is_IsNumeral row low).0.1 less

-- the line of the one row, and that of a way
not_is : (row : ℕ) (words : List ℕ) → row < 2 ^ 64 → TellsWay (codes "row " ++ decimal row ++ codes " is " ++ words ++ codes "\n") → ⊥
not_is row words low way =
    let ds = decimal row in
    let es = decimal (row_at way.place) in
    let rest = words ++ codes "\n" in
    apart ds es (105 ∷ 115 ∷ 32 ∷ rest) (way_text way.way ++ codes "\n") (digits row low) (digits (row_at way.place) (small way.place way.is_row))
    (sym (append_assoc ds (codes " is ") rest) ∙ sym (append_assoc (ds ++ codes " is ") words (codes "\n"))
    ∙ ap (drop 4) way.spelled ∙ append_assoc (es ++ codes ":") (way_text way.way) (codes "\n") ∙ append_assoc es (codes ":") (way_text way.way ++ codes "\n"))

-- the rows that are listed
abbrev AreSmall : List ℕ → Type 0
AreSmall rows = All (λ row. row < 2 ^ 64) rows

row_small : (received : List Bool) (place : ℕ) → place < 12 → AreSmall (row_listed received place)
row_small received place low = by (slice_index_or received place false)
  where
    by : (has : Bool) → AreSmall (if has then row_at place ∷ [] else [])
    by true = All-cons (λ row. row < 2 ^ 64) (row_at place) [] (small place low) (All-nil (λ row. row < 2 ^ 64))
    by false = All-nil (λ row. row < 2 ^ 64)

all_small : (received : List Bool) (count from : ℕ) → from + count ≤ 12 → AreSmall (flat_map (row_listed received) (range_with_len from count))
all_small received zero from up = All-nil (λ row. row < 2 ^ 64)
all_small received (suc count) from up =
    let front : range_with_len from (suc count) ≡ from ∷ range_with_len (from + 1) count =
    range_front from (suc count) (omega arith) ∙ ap (λ (n : ℕ). from ∷ range_with_len (from + 1) n) (omega arith) in
    subst (λ (l : List ℕ). AreSmall (flat_map (row_listed received) l)) (sym front)
    (All-append (λ row. row < 2 ^ 64) (row_listed received from) (flat_map (row_listed received) (range_with_len (from + 1) count))
    (row_small received from (omega (arith, up))) (all_small received count (from + 1) (omega (arith, up))))

rows_small : (received : List Bool) → AreSmall (rows_listed received)
rows_small received = subst AreSmall (sym (rows_whole received)) (all_small received 12 0 (omega arith))

pub cycles : (cycle : Cycle) (waits : Bool) (cards : ℕ) → TellsWay (cycle_line cycle waits cards) → ⊥
cycles RunIn waits cards way = other_front _ _ 99 (λ is. omega (arith, is)) refl way
cycles Card waits cards way = other_front _ _ 99 (λ is. omega (arith, is)) refl way
cycles (Prog level ordinal) waits cards way = other_front _ _ 99 (λ is. omega (arith, is)) refl way
cycles (Head heading) waits cards way = other_front _ _ 99 (λ is. omega (arith, is)) refl way

characters : (rows : List ℕ) (character : ℕ) → AreSmall rows → TellsWay (character_line rows character) → ⊥
characters [] character are way = cc
characters (row ∷ []) character are way = not_is row (printed_text character) (are 0 0 (omega arith)) way
characters (row ∷ next ∷ others) character are way = let is = ap (λ l. get_or l 3 0) way.spelled in omega (arith, is)

controls : (wiring : Wiring) (received : List Bool) (told : Explanation) → TellsWay (zero_control_line wiring received told) → ⊥
controls wiring received told way = by (is_plugged wiring (Symbol told.wheel)) (is_plugged wiring (Suppress told.wheel)) way
  where
    by : (symbol suppress : Bool) → TellsWay (if symbol then symbol_line received told else if suppress then suppress_line received told else []) → ⊥
    by true suppress way = other_front _ _ 122 (λ is. omega (arith, is)) refl way
    by false true way = other_front _ _ 122 (λ is. omega (arith, is)) refl way
    by false false way = cc

pub only_rows : OnlyRowsTellWays
only_rows = record {
  page = λ told way. other_front _ _ 112 (λ is. omega (arith, is)) refl way;
  cycle = cycles;
  note = λ words way. other_front _ _ 32 (λ same. omega (arith, same)) refl way;
  asked = λ words way. other_front _ _ 32 (λ same. omega (arith, same)) refl way;
  character = λ received character way. characters (rows_listed received) character (rows_small received) way;
  control = controls;
}
