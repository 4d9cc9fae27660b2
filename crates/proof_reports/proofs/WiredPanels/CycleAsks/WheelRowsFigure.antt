-- What an amount sends to its wheels: its digits, its point and its mark.
use Rattle.std.proofs.Common.{◌≡◌, ◌∙◌, refl, sym, ap, subst, ℕ, zero, suc, ◌+◌, ◌-◌, ◌<◌, ◌≤◌, nat_lt, Bool, true, false, cond, List, ◌++◌, Option, Some, None, length, map, take, drop, get_or, inl, inr, ◌⊎◌, arith, length-append}
use Rattle.std.proofs.lemmas.Bool.{cases_lt}
use Rattle.std.proofs.lemmas.Bool.Decides.{nat_tests}
use Rattle.std.proofs.lemmas.List.{length-map, get_or-map, get_or-take, get_or-drop, length-take-le, length-drop, get_or_append_left, get_or-append-add}
use Rattle.proof_reports.specs.Below.card_code.CardCode.{has_row}
use Rattle.proof_reports.specs.Below.card_code.Rows.{row_number}
use Rattle.proof_reports.specs.Below.card_code.declared.row.Row.{Row as CardRow}
use Rattle.proof_reports.specs.Below.chart_line_rules.PrintRules.Items.{mark_width}
use Rattle.proof_reports.specs.Below.chart_lines.declared.charts.statement.Mark.TheVariants as mark
use Rattle.proof_reports.specs.Below.chart_lines.declared.charts.statement.Mark.{Mark}
use Rattle.proof_reports.specs.PrintedLines.Shown.Shown.{Amount}
use Rattle.proof_reports.specs.PrintedLines.Shown.{Shown, set_of_character, digit_set, point_sets, mark_sets, sets_of, wheel_of_shown}
use Rattle.wiring_table.specs.Figures.{HasPunch, HasPunchAt, digit_wheel, point_wheel, mark_wheel, mark_text}
use Rattle.proof_reports.proofs.WiredPanels.CycleAsks.WheelRows.{stands_on, sent_on, no_rows}
use Rattle.proof_reports.proofs.WiredPanels.CycleAsks.WheelRowsText.{standing, stand, sent-at, punch-of, has-punch, punch-sent, punch-at}
use Rattle.proof_reports.proofs.PrintedLines.ItemWheels.{mark-sets}

-- An amount of so many digits and decimals sends a row to a wheel: the row of a digit, a row of the point, or one of its mark.
pub data FigureSends (wheel digits decimals : ℕ) (mark : Option Mark) (shown : List (Option ℕ)) (negative : Bool) (row : ℕ) : ℕ → Type 0 where
  digit : (position : ℕ) → 1 ≤ position → position ≤ digits
      → has_row (digit_set (get_or shown (digits - position) None)) row ≡ true
      → FigureSends wheel digits decimals mark shown negative row (digit_wheel wheel digits decimals position)
  point : 0 < decimals → HasPunch 46 row
      → FigureSends wheel digits decimals mark shown negative row (point_wheel wheel digits decimals)
  marked : (its : Mark) (k : ℕ) → mark ≡ Some its → negative ≡ true → HasPunchAt (mark_text its) k row
      → FigureSends wheel digits decimals mark shown negative row (mark_wheel wheel digits decimals + k)

-- how many wheels the point takes
abbrev pub point_width : ℕ → ℕ
point_width decimals = cond (nat_lt 0 decimals) 1 0

length-point : (decimals : ℕ) → length (point_sets decimals) ≡ point_width decimals
length-point zero = refl
length-point (suc decimals) = let e : nat_lt 0 (suc decimals) ≡ true = grind (arith, nat_tests) in sym (ap (λ b. cond b 1 0) e)

-- the digits before the point, and those after it
abbrev front : (digits decimals : ℕ) → List (Option ℕ) → List ℕ
front digits decimals shown = map digit_set (take (digits - decimals) shown)

abbrev back : (digits decimals : ℕ) → List (Option ℕ) → List ℕ
back digits decimals shown = map digit_set (drop (digits - decimals) shown)

-- the sets that an amount sends
abbrev pub figure_sets : (digits decimals : ℕ) → Option Mark → List (Option ℕ) → Bool → List ℕ
figure_sets digits decimals mark shown negative =
    front digits decimals shown ++ (point_sets decimals ++ (back digits decimals shown ++ mark_sets mark negative))

-- where each set stands among them
module _ (digits decimals : ℕ) (mark : Option Mark) (shown : List (Option ℕ)) (negative : Bool) (few : decimals ≤ digits) (long : length shown ≡ digits) where
  length-front : length (front digits decimals shown) ≡ digits - decimals
  length-front =
      length-map (take (digits - decimals) shown) digit_set ∙ length-take-le (digits - decimals) shown (omega (arith, long))

  length-back : length (back digits decimals shown) ≡ decimals
  length-back = length-map (drop (digits - decimals) shown) digit_set ∙ length-drop (digits - decimals) shown ∙ omega (arith, few, long)

  pub length-sets : length (figure_sets digits decimals mark shown negative) ≡ digits + point_width decimals + mark_width mark
  length-sets =
      let a = length-append (front digits decimals shown) (point_sets decimals ++ (back digits decimals shown ++ mark_sets mark negative)) in
      let b = length-append (point_sets decimals) (back digits decimals shown ++ mark_sets mark negative) in
      let c = length-append (back digits decimals shown) (mark_sets mark negative) in
      sums _ _ _ _ _ _ (point_width decimals) (length (mark_sets mark negative)) (mark_width mark) a b c length-front (length-point decimals) length-back (mark-sets mark negative)
    where
      sums : (all rest more f p b w n m : ℕ) → all ≡ f + rest → rest ≡ p + more → more ≡ b + n → f ≡ digits - decimals → p ≡ w → b ≡ decimals → n ≡ m
          → all ≡ digits + w + m
      sums all rest more f p b w n m e1 e2 e3 e4 e5 e6 e7 = omega (arith, e1, e2, e3, e4, e5, e6, e7, few)

  at-front : (k : ℕ) → k < digits - decimals → get_or (figure_sets digits decimals mark shown negative) k 0 ≡ digit_set (get_or shown k None)
  at-front k within =
      get_or_append_left (front digits decimals shown) _ 0 k (subst (λ n. k < n) (sym length-front) within)
      ∙ get_or-map digit_set (take (digits - decimals) shown) k None 0
      (subst (λ n. k < n) (sym (length-take-le (digits - decimals) shown (omega (arith, long)))) within)
      ∙ ap digit_set (get_or-take (digits - decimals) shown k None within)

  -- what stands after the digits before the point
  at-rest : (k : ℕ) → get_or (figure_sets digits decimals mark shown negative) (digits - decimals + k) 0
      ≡ get_or (point_sets decimals ++ (back digits decimals shown ++ mark_sets mark negative)) k 0
  at-rest k =
      ap (λ n. get_or (figure_sets digits decimals mark shown negative) (n + k) 0) (sym length-front)
      ∙ get_or-append-add (front digits decimals shown) (point_sets decimals ++ (back digits decimals shown ++ mark_sets mark negative)) k 0

  -- what stands after the point
  at-more : (k : ℕ) → get_or (figure_sets digits decimals mark shown negative) (digits - decimals + (point_width decimals + k)) 0
      ≡ get_or (back digits decimals shown ++ mark_sets mark negative) k 0
  at-more k =
      at-rest (point_width decimals + k)
      ∙ ap (λ n. get_or (point_sets decimals ++ (back digits decimals shown ++ mark_sets mark negative)) (n + k) 0) (sym (length-point decimals))
      ∙ get_or-append-add (point_sets decimals) (back digits decimals shown ++ mark_sets mark negative) k 0

  at-back : (k : ℕ) → k < decimals → get_or (figure_sets digits decimals mark shown negative) (digits - decimals + (point_width decimals + k)) 0
      ≡ digit_set (get_or shown (digits - decimals + k) None)
  at-back k within =
      at-more k ∙ get_or_append_left (back digits decimals shown) (mark_sets mark negative) 0 k (subst (λ n. k < n) (sym length-back) within)
      ∙ get_or-map digit_set (drop (digits - decimals) shown) k None 0
      (subst (λ n. k < n) (sym (length-drop (digits - decimals) shown ∙ omega (arith, few, long))) within)
      ∙ ap digit_set (get_or-drop (digits - decimals) shown k None)

  at-mark : (k : ℕ) → get_or (figure_sets digits decimals mark shown negative) (digits + point_width decimals + k) 0 ≡ get_or (mark_sets mark negative) k 0
  at-mark k =
      ap (λ n. get_or (figure_sets digits decimals mark shown negative) n 0) (places (point_width decimals))
      ∙ at-more (decimals + k)
      ∙ ap (λ n. get_or (back digits decimals shown ++ mark_sets mark negative) (n + k) 0) (sym length-back)
      ∙ get_or-append-add (back digits decimals shown) (mark_sets mark negative) k 0
    where
      places : (w : ℕ) → digits + w + k ≡ digits - decimals + (w + (decimals + k))
      places w = omega (arith, few)

at-point : (digits decimals : ℕ) (mark : Option Mark) (shown : List (Option ℕ)) (negative : Bool) → decimals ≤ digits → length shown ≡ digits
    → 0 < decimals → get_or (figure_sets digits decimals mark shown negative) (digits - decimals) 0 ≡ set_of_character 46
at-point digits zero mark shown negative few long some = absurd (omega (arith, some))
at-point digits (suc decimals) mark shown negative few long some =
    let e : digits - suc decimals ≡ digits - suc decimals + 0 = omega arith in
    ap (λ n. get_or (figure_sets digits (suc decimals) mark shown negative) n 0) e
    ∙ at-rest digits (suc decimals) mark shown negative few long 0

-- the mark's characters come where the amount is below 0
mark-sent : (its : Mark) (k row : ℕ) → HasPunchAt (mark_text its) k row
    → (k < length (mark_sets (Some its) true)) × (has_row (get_or (mark_sets (Some its) true) k 0) row ≡ true)
mark-sent mark.Credit k row punch = punch-sent (mark_text mark.Credit) k row punch
mark-sent mark.Minus k row punch = punch-sent (mark_text mark.Minus) k row punch

mark-at : (its : Mark) (k : ℕ) (row : CardRow) → k < mark_width (Some its)
    → has_row (get_or (mark_sets (Some its) true) k 0) (row_number row) ≡ true → HasPunchAt (mark_text its) k (row_number row)
mark-at mark.Credit k row within on = punch-at (mark_text mark.Credit) k row within on
mark-at mark.Minus k row within on = punch-at (mark_text mark.Minus) k row within on

mark-none : (its : Mark) (k : ℕ) → get_or (mark_sets (Some its) false) k 0 ≡ 0
mark-none mark.Credit zero = refl
mark-none mark.Credit (suc zero) = refl
mark-none mark.Credit (suc (suc k)) = refl
mark-none mark.Minus zero = refl
mark-none mark.Minus (suc k) = refl

-- an amount, from a wheel on
abbrev pub amount_shown : (wheel digits decimals : ℕ) → Option Mark → List (Option ℕ) → Bool → Shown
amount_shown wheel digits decimals mark shown negative =
    Amount wheel (record { digits = digits; decimals = decimals; mark = mark }) shown negative

-- an item sends what stands at a place of its sets
pub sends-at : (shown : Shown) (wheel k n set row v : ℕ) → wheel_of_shown shown ≡ wheel → length (sets_of shown) ≡ n → get_or (sets_of shown) k 0 ≡ set
    → v ≡ wheel + k → k < n → has_row set row ≡ true → (stands_on shown v ≡ true) × (has_row (sent_on shown v) row ≡ true)
sends-at shown wheel k n set row v first long is there within on =
    let e : wheel_of_shown shown + k ≡ v = ap (λ w. w + k) first ∙ sym there in (
      subst (λ w. stands_on shown w ≡ true) e (stand shown k (subst (λ m. k < m) (sym long) within)),
      subst (λ w. has_row (sent_on shown w) row ≡ true) e (ap (λ s. has_row s row) (sent-at shown k ∙ is) ∙ on),
    )

wheel-before : (wheel digits decimals position : ℕ) → decimals ≤ digits → decimals < position → position ≤ digits
    → digit_wheel wheel digits decimals position ≡ wheel + (digits - position)
wheel-before wheel digits decimals position few high most =
    let e : nat_lt decimals position ≡ true = grind (arith, nat_tests, high) in
    ap (λ b. cond b (wheel + digits - position) (wheel + digits + 1 - position)) e ∙ omega (arith, most)

wheel-after : (wheel digits decimals position : ℕ) → decimals ≤ digits → position ≤ decimals
    → digit_wheel wheel digits decimals position ≡ wheel + (digits + 1 - position)
wheel-after wheel digits decimals position few low =
    let e : nat_lt decimals position ≡ false = grind (arith, nat_tests, low) in
    ap (λ b. cond b (wheel + digits - position) (wheel + digits + 1 - position)) e ∙ omega (arith, low, few)

one-point : (decimals : ℕ) → 0 < decimals → point_width decimals ≡ 1
one-point decimals some = let e : nat_lt 0 decimals ≡ true = grind (arith, nat_tests, some) in ap (λ b. cond b 1 0) e

no-point : (decimals : ℕ) → decimals ≡ 0 → point_width decimals ≡ 0
no-point decimals none = ap point_width none

pub figure-sent : (wheel digits decimals : ℕ) (mark : Option Mark) (shown : List (Option ℕ)) (negative : Bool) (row : ℕ) {v : ℕ}
    → decimals ≤ digits → length shown ≡ digits → FigureSends wheel digits decimals mark shown negative row v
    → (stands_on (amount_shown wheel digits decimals mark shown negative) v ≡ true)
    × (has_row (sent_on (amount_shown wheel digits decimals mark shown negative) v) row ≡ true)
figure-sent wheel digits decimals mark shown negative row few long (digit position low high on) = elim (cases_lt decimals position) [
  | inl left ↦
      sends-at (amount_shown wheel digits decimals mark shown negative) wheel (digits - position) (digits + point_width decimals + mark_width mark)
      (digit_set (get_or shown (digits - position) None)) row _ refl (length-sets digits decimals mark shown negative few long)
      (at-front digits decimals mark shown negative few long (digits - position) (omega (arith, left, high)))
      (wheel-before wheel digits decimals position few left high) (omega (arith, low, high)) on
  | inr right ↦
      let one = one-point decimals (omega (arith, low, right)) in
      let place : digits - decimals + (point_width decimals + (decimals - position)) ≡ digits + 1 - position = omega (arith, one, right, few) in
      let same : digits - decimals + (decimals - position) ≡ digits - position = omega (arith, right, few) in
      sends-at (amount_shown wheel digits decimals mark shown negative) wheel (digits + 1 - position) (digits + point_width decimals + mark_width mark)
      (digit_set (get_or shown (digits - position) None)) row _ refl (length-sets digits decimals mark shown negative few long)
      (ap (λ n. get_or (figure_sets digits decimals mark shown negative) n 0) (sym place)
      ∙ at-back digits decimals mark shown negative few long (decimals - position) (omega (arith, low, right))
      ∙ ap (λ n. digit_set (get_or shown n None)) same)
      (wheel-after wheel digits decimals position few right) (omega (arith, low, right, one)) on
]
figure-sent wheel digits decimals mark shown negative row few long (point some punch) =
    let one = one-point decimals some in
    sends-at (amount_shown wheel digits decimals mark shown negative) wheel (digits - decimals) (digits + point_width decimals + mark_width mark)
    (set_of_character 46) row _ refl (length-sets digits decimals mark shown negative few long)
    (at-point digits decimals mark shown negative few long some) (omega (arith, few)) (omega (arith, one)) (punch-of 46 row punch)
figure-sent wheel digits decimals mark shown negative row few long (marked its k is below punch) =
    let (within, on) = mark-sent its k row punch in
    let e : mark_sets mark negative ≡ mark_sets (Some its) true = ap (λ m. mark_sets m negative) is ∙ ap (mark_sets (Some its)) below in
    let f : length (mark_sets (Some its) true) ≡ mark_width mark = sym (ap length e) ∙ mark-sets mark negative in
    sends-at (amount_shown wheel digits decimals mark shown negative) wheel (digits + point_width decimals + k) (digits + point_width decimals + mark_width mark)
    (get_or (mark_sets (Some its) true) k 0) row _ refl (length-sets digits decimals mark shown negative few long)
    (at-mark digits decimals mark shown negative few long k ∙ ap (λ l. get_or l k 0) e) (omega arith) (omega (arith, within, f)) on

pub figure-of : (wheel digits decimals : ℕ) (mark : Option Mark) (shown : List (Option ℕ)) (negative : Bool) (row : CardRow) (v : ℕ)
    → decimals ≤ digits → length shown ≡ digits
    → stands_on (amount_shown wheel digits decimals mark shown negative) v ≡ true
    → has_row (sent_on (amount_shown wheel digits decimals mark shown negative) v) (row_number row) ≡ true
    → FigureSends wheel digits decimals mark shown negative (row_number row) v
figure-of wheel digits decimals mark shown negative row v few long there on =
    let s = standing (amount_shown wheel digits decimals mark shown negative) v there in
    let within : s.j < digits + point_width decimals + mark_width mark
    = subst (λ n. s.j < n) (length-sets digits decimals mark shown negative few long) s.within in
    let here : has_row (get_or (figure_sets digits decimals mark shown negative) s.j 0) (row_number row) ≡ true
    = sym (ap (λ k. has_row (get_or (figure_sets digits decimals mark shown negative) k 0) (row_number row)) s.after) ∙ on in
    by s.j s.is within here (cases_lt s.j (digits - decimals)) (cases_lt s.j (digits + point_width decimals))
  where
    at-digit : (position : ℕ) → 1 ≤ position → position ≤ digits → has_row (digit_set (get_or shown (digits - position) None)) (row_number row) ≡ true
        → digit_wheel wheel digits decimals position ≡ v → FigureSends wheel digits decimals mark shown negative (row_number row) v
    at-digit position low high is at = subst (λ w. FigureSends wheel digits decimals mark shown negative (row_number row) w) at (digit position low high is)

    of-mark : (k : ℕ) (m : Option Mark) (b : Bool) → mark ≡ m → negative ≡ b → k < mark_width m → v ≡ mark_wheel wheel digits decimals + k
        → has_row (get_or (mark_sets m b) k 0) (row_number row) ≡ true
        → FigureSends wheel digits decimals mark shown negative (row_number row) v
    of-mark k None b is below less at there = absurd (omega (arith, less))
    of-mark k (Some its) true is below less at there =
        subst (λ w. FigureSends wheel digits decimals mark shown negative (row_number row) w) (sym at)
        (marked its k is below (mark-at its k row less there))
    of-mark k (Some its) false is below less at there =
        let none = no_rows row in
        let e : has_row 0 (row_number row) ≡ true = sym (ap (λ s. has_row s (row_number row)) (mark-none its k)) ∙ there in
        cc

    of-point : (j : ℕ) → v ≡ wheel + j → j ≡ digits - decimals → 0 < decimals
        → has_row (get_or (figure_sets digits decimals mark shown negative) j 0) (row_number row) ≡ true
        → FigureSends wheel digits decimals mark shown negative (row_number row) v
    of-point j is same some there =
        let set : get_or (figure_sets digits decimals mark shown negative) j 0 ≡ set_of_character 46
        = ap (λ n. get_or (figure_sets digits decimals mark shown negative) n 0) same ∙ at-point digits decimals mark shown negative few long some in
        let at : point_wheel wheel digits decimals ≡ v = omega (arith, is, same, few) in
        subst (λ w. FigureSends wheel digits decimals mark shown negative (row_number row) w) at
        (point some (has-punch 46 row (sym (ap (λ s. has_row s (row_number row)) set) ∙ there)))

    of-back : (j : ℕ) → v ≡ wheel + j → digits - decimals + 1 ≤ j → j < digits + 1 → 0 < decimals
        → has_row (get_or (figure_sets digits decimals mark shown negative) j 0) (row_number row) ≡ true
        → FigureSends wheel digits decimals mark shown negative (row_number row) v
    of-back j is low high some there =
        let one = one-point decimals some in
        let place : j ≡ digits - decimals + (point_width decimals + (j - (digits - decimals + 1))) = omega (arith, one, low) in
        let same : digits - decimals + (j - (digits - decimals + 1)) ≡ digits - (digits + 1 - j) = omega (arith, low, high, few) in
        let set : get_or (figure_sets digits decimals mark shown negative) j 0 ≡ digit_set (get_or shown (digits - (digits + 1 - j)) None)
        = ap (λ n. get_or (figure_sets digits decimals mark shown negative) n 0) place
        ∙ at-back digits decimals mark shown negative few long (j - (digits - decimals + 1)) (omega (arith, low, high, few))
        ∙ ap (λ n. digit_set (get_or shown n None)) same in
        at-digit (digits + 1 - j) (omega (arith, high)) (omega (arith, low, few, some))
        (sym (ap (λ s. has_row s (row_number row)) set) ∙ there)
        (wheel-after wheel digits decimals (digits + 1 - j) few (omega (arith, low, few)) ∙ omega (arith, is, high, low))

    of-middle : (j : ℕ) → v ≡ wheel + j → digits - decimals ≤ j → j < digits + point_width decimals
        → has_row (get_or (figure_sets digits decimals mark shown negative) j 0) (row_number row) ≡ true
        → (decimals < 1) ⊎ (1 ≤ decimals) → (digits - decimals < j) ⊎ (j ≤ digits - decimals)
        → FigureSends wheel digits decimals mark shown negative (row_number row) v
    of-middle j is low high there (inl none) _ = let w = no-point decimals (omega (arith, none)) in absurd (omega (arith, none, w, low, high))
    of-middle j is low high there (inr some) (inl right) =
        let one = one-point decimals some in of-back j is (omega (arith, right)) (omega (arith, high, one)) some there
    of-middle j is low high there (inr some) (inr left) = of-point j is (omega (arith, low, left)) some there

    by : (j : ℕ) → v ≡ wheel + j → j < digits + point_width decimals + mark_width mark
        → has_row (get_or (figure_sets digits decimals mark shown negative) j 0) (row_number row) ≡ true
        → (j < digits - decimals) ⊎ (digits - decimals ≤ j) → (j < digits + point_width decimals) ⊎ (digits + point_width decimals ≤ j)
        → FigureSends wheel digits decimals mark shown negative (row_number row) v
    by j is within there (inl left) _ =
        let same : j ≡ digits - (digits - j) = omega (arith, left) in
        let set : get_or (figure_sets digits decimals mark shown negative) j 0 ≡ digit_set (get_or shown (digits - (digits - j)) None)
        = at-front digits decimals mark shown negative few long j left ∙ ap (λ n. digit_set (get_or shown n None)) same in
        at-digit (digits - j) (omega (arith, left)) (omega arith) (sym (ap (λ s. has_row s (row_number row)) set) ∙ there)
        (wheel-before wheel digits decimals (digits - j) few (omega (arith, left)) (omega arith) ∙ omega (arith, is, left))
    by j is within there (inr right) (inl middle) = of-middle j is right middle there (cases_lt decimals 1) (cases_lt (digits - decimals) j)
    by j is within there (inr right) (inr after) =
        let place : j ≡ digits + point_width decimals + (j - (digits + point_width decimals)) = omega (arith, after) in
        let set : get_or (figure_sets digits decimals mark shown negative) j 0 ≡ get_or (mark_sets mark negative) (j - (digits + point_width decimals)) 0
        = ap (λ n. get_or (figure_sets digits decimals mark shown negative) n 0) place
        ∙ at-mark digits decimals mark shown negative few long (j - (digits + point_width decimals)) in
        of-mark (j - (digits + point_width decimals)) mark negative refl refl (omega (arith, within, after)) (omega (arith, is, after))
        (sym (ap (λ s. has_row s (row_number row)) set) ∙ there)
