-- A group enters the digits of the earliest rows.
use Rattle.std.proofs.Common.{◌≡◌, ◌∙◌, refl, sym, ap, ℕ, ◌+◌, ◌-◌, ◌^◌, ◌==◌, ◌&&◌, ◌||◌, nat_le, Bool, true, false, List, [], ◌∷◌, ◌++◌, map, replicate, arith, if◌then◌else◌}
use Rattle.std.specs.List.{list_all}
use Rattle.std.proofs.lemmas.Bool.{and_parts}
use Rattle.std.proofs.lemmas.Bool.Decides.{nat_tests}
use Rattle.card_code.specs.Rows.{row_number, rows}
use Rattle.card_code.specs.declared.row.Row.{Row as CardRow}
use Rattle.card_code.specs.declared.row.Row.TheVariants.{Zero, Eleven, Twelve}
use Rattle.hubs.specs.declared.hub.Group.{Group}
use Rattle.hubs.specs.declared.hub.Hub.{Hub}
use Rattle.hubs.specs.declared.hub.Hub.TheVariants.{CI, GE}
use Rattle.net.specs.Cycles.{points}
use Rattle.net.specs.WholeCycles.{after_points}
use Rattle.net.specs.declared.cycle.Cycle.{Cycle}
use Rattle.net.specs.declared.cycle.Point.{Point}
use Rattle.net.specs.declared.cycle.Point.TheVariants.{C, K, Row}
use Rattle.counters.specs.Counters.{Counter, all_taken, controls_of, counter_sensed, taken, takes}
use Rattle.counters.specs.Laws.{IsCounter}
use Rattle.counters.specs.Numbers.{added_number, left_number, number, start_number}
use Rattle.counters.specs.WholeCycles.{EarliestRowsAreEntered, after_its_points, digit_given, digit_rows, digits_given, first_digit, listed}
use Rattle.counters.specs.declared.controls.Controls.{Controls}
use Rattle.counters.proofs.Cycles.{ended-left}
use Rattle.counters.proofs.ListedDigits.{all_taken-listed, listed-same, zeros-listed}
use Rattle.counters.proofs.Staying.{counters-stay}

-- the positions whose entries are impulsed at a row
abbrev pub impulsed_at : Group → (Point → Hub → Bool) → CardRow → ℕ → Bool
impulsed_at name pictures row position = pictures (Row row) (GE name position)

-- what is entered after some rows
abbrev pub rows_taken : Controls → Group → (Point → Hub → Bool) → List CardRow → List ℕ → List ℕ
rows_taken controls name pictures [] entered = entered
rows_taken controls name pictures (row ∷ others) entered =
    rows_taken controls name pictures others
    (if takes controls (row_number row) then all_taken (row_number row) (impulsed_at name pictures row) entered else entered)

-- a group after some rows has entered what they give, and no more
after_rows : (cycle : Cycle) (pictures : Point → Hub → Bool) (some : List CardRow) (counter : Counter)
    → after_points counter_sensed cycle pictures (map Row some ++ (K ∷ [])) counter
    ≡ record counter {
      entered = rows_taken counter.controls counter.name pictures some counter.entered;
      carry = pictures K (CI counter.name);
    }
after_rows cycle pictures [] counter = refl
after_rows cycle pictures (first ∷ others) counter =
    after_rows cycle pictures others (counter_sensed counter cycle (Row first) (pictures (Row first)))

-- whether a row is one of 9 to 1
abbrev pub is_digit_row : CardRow → Bool
is_digit_row row = nat_le 1 (row_number row) && nat_le (row_number row) 9

-- what a position has entered after some rows, where digits are entered or not
abbrev pub digit_after : Bool → (CardRow → Bool) → List CardRow → ℕ → ℕ
digit_after on impulsed [] digit = digit
digit_after on impulsed (row ∷ others) digit =
    digit_after on impulsed others (if on && is_digit_row row then taken (row_number row) (impulsed row) digit else digit)

-- all positions after some rows
row_taken-listed : (on : Bool) (row : ℕ) (impulsed : ℕ → Bool) (digit : ℕ → ℕ) (count : ℕ)
    → (if on then all_taken row impulsed (listed digit count) else listed digit count)
    ≡ listed (λ position. if on then taken row (impulsed position) (digit position) else digit position) count
row_taken-listed true row impulsed digit count = all_taken-listed row impulsed digit count
row_taken-listed false row impulsed digit count = refl

pub rows_taken-listed : (controls : Controls) (name : Group) (pictures : Point → Hub → Bool) (some : List CardRow) (digit : ℕ → ℕ) (count : ℕ)
    → rows_taken controls name pictures some (listed digit count)
    ≡ listed
    (λ position. digit_after (controls.plus || controls.minus) (λ row. impulsed_at name pictures row position) some (digit position))
    count
rows_taken-listed controls name pictures [] digit count = refl
rows_taken-listed controls name pictures (row ∷ others) digit count =
    ap (rows_taken controls name pictures others)
    (row_taken-listed (takes controls (row_number row)) (row_number row) (impulsed_at name pictures row) digit count)
    ∙ rows_taken-listed controls name pictures others
    (λ position. if takes controls (row_number row) then taken (row_number row) (impulsed_at name pictures row position) (digit position)
    else digit position) count

-- a digit that is entered stays
pub digit_after-kept : (impulsed : CardRow → Bool) (some : List CardRow) (digit : ℕ) → (digit == 0) ≡ false
    → digit_after true impulsed some digit ≡ digit
digit_after-kept impulsed [] digit entered = refl
digit_after-kept impulsed (row ∷ others) digit entered =
    ap (digit_after true impulsed others) (by (is_digit_row row)) ∙ digit_after-kept impulsed others digit entered
  where
    by : (is : Bool) → (if is then taken (row_number row) (impulsed row) digit else digit) ≡ digit
    by true = ap (λ b. if b && impulsed row then row_number row else digit) entered
    by false = refl

-- after rows of digits stands the first of them at which the position was impulsed
digit_after-first : (impulsed : CardRow → Bool) (some others : List CardRow) → list_all is_digit_row some ≡ true
    → digit_after true impulsed others 0 ≡ 0
    → digit_after true impulsed (some ++ others) 0 ≡ first_digit impulsed some
digit_after-first impulsed [] others all none = none
digit_after-first impulsed (row ∷ some) others all none =
    ap (λ b. digit_after true impulsed (some ++ others) (if b then taken (row_number row) (impulsed row) 0 else 0)) parts.0
    ∙ by (impulsed row) (digit_after-first impulsed some others parts.1 none)
  where
    parts : (is_digit_row row ≡ true) × (list_all is_digit_row some ≡ true)
    parts = and_parts (is_digit_row row) (list_all is_digit_row some) all

    some_digit : (n : ℕ) → (nat_le 1 n && nat_le n 9) ≡ true → (n == 0) ≡ false
    some_digit n is = grind (arith, nat_tests, is)

    by : (is : Bool) → digit_after true impulsed (some ++ others) 0 ≡ first_digit impulsed some
        → digit_after true impulsed (some ++ others) (if is then row_number row else 0)
        ≡ (if is then row_number row else first_digit impulsed some)
    by true below = digit_after-kept impulsed (some ++ others) (row_number row) (some_digit (row_number row) parts.0)
    by false below = below

-- what a position has entered after all rows
pub digit_after-rows : (on : Bool) (impulsed : CardRow → Bool)
    → digit_after on impulsed rows 0 ≡ (if on then first_digit impulsed digit_rows else 0)
digit_after-rows true impulsed = digit_after-first impulsed digit_rows (Zero ∷ Eleven ∷ Twelve ∷ []) refl refl
digit_after-rows false impulsed = refl

-- what a group has entered after all rows
rows_taken-all : (controls : Controls) (name : Group) (pictures : Point → Hub → Bool) (entered : List ℕ)
    → entered ≡ replicate name.width 0
    → rows_taken controls name pictures rows entered
    ≡ (if controls.plus || controls.minus then digits_given name pictures else entered)
rows_taken-all controls name pictures entered none =
    ap (rows_taken controls name pictures rows) (none ∙ zeros-listed name.width)
    ∙ rows_taken-listed controls name pictures rows (λ position. 0) name.width
    ∙ listed-same (λ position. digit_after (controls.plus || controls.minus) (λ row. impulsed_at name pictures row position) rows 0)
    (λ position. if controls.plus || controls.minus then digit_given name pictures position else 0) name.width
    (λ position from to. digit_after-rows (controls.plus || controls.minus) (λ row. impulsed_at name pictures row position))
    ∙ by (controls.plus || controls.minus)
  where
    by : (on : Bool) → listed (λ position. if on then digit_given name pictures position else 0) name.width
        ≡ (if on then digits_given name pictures else entered)
    by true = refl
    by false = sym (none ∙ zeros-listed name.width)

-- a group stays one through points
pub points-stay : (cycle : Cycle) (pictures : Point → Hub → Bool) (some : List Point) (counter : Counter) → IsCounter counter
    → IsCounter (after_points counter_sensed cycle pictures some counter)
points-stay cycle pictures [] counter is = is
points-stay cycle pictures (point ∷ others) counter is =
    points-stay cycle pictures others (counter_sensed counter cycle point (pictures point))
    (counters-stay.sensed counter cycle point (pictures point) is)

-- without plus and minus it doesn't matter what is entered
added-same : (m p : Bool) (power : ℕ) (digits others : List ℕ)
    → (if m then power - 1 - number (if p || m then digits else others) else if p then number (if p || m then digits else others) else 0)
    ≡ (if m then power - 1 - number digits else if p then number digits else 0)
added-same true true power digits others = refl
added-same true false power digits others = refl
added-same false true power digits others = refl
added-same false false power digits others = refl

-- the digits of the earliest rows are entered, and their number added
pub earliest-entered : EarliestRowsAreEntered
earliest-entered counter cycle pictures is none =
    let controls = controls_of counter.name (pictures C) in
    let digits = digits_given counter.name pictures in
    let power = 10 ^ counter.name.width in
    let after = after_its_points cycle pictures counter in
    let all = after_rows cycle pictures rows (record counter { controls = controls }) in
    let taken = rows_taken-all controls counter.name pictures counter.entered none in
    let entered : after.entered ≡ (if controls.plus || controls.minus then digits else counter.entered)
    = ap (λ (c : Counter). c.entered) all ∙ taken in
    record {
      controlled = refl;
      entered = entered;
      carry = ap (λ (c : Counter). c.carry) all;
      number = λ is_ring round.
          ended-left is_ring after cycle (points-stay cycle pictures points counter is) (ap (λ (c : Counter). c.carry) all ∙ round)
          ∙ ap (λ ds. left_number is_ring power (start_number controls (number counter.digits) + added_number controls power (number ds)))
          entered
          ∙ ap (λ n. left_number is_ring power (start_number controls (number counter.digits) + n))
          (added-same controls.minus controls.plus power digits counter.entered);
    }
