-- An item prints its text at its wheels: a text wheel by wheel, an amount under its own jacks.
use Rattle.std.proofs.Common.{◌≡◌, ◌∙◌, refl, sym, ap, ap₂, ℕ, zero, suc, ◌+◌, ◌-◌, ◌<◌, ◌≤◌, nat_le, nat_lt, if◌then◌else◌, Bool, true, false, List, [], ◌∷◌, ◌++◌, length, map, take, drop, slice_index_or, Option, Some, None, arith}
use Rattle.std.specs.List.{range_with_len}
use Rattle.std.proofs.lemmas.Bool.Decides.{nat_tests}
use Rattle.std.proofs.lemmas.List.{length-map, length-take, length-drop}
use Rattle.wiring_table.specs.Below.chart_lines.declared.charts.statement.Mark.{Mark}
use Rattle.wiring_table.specs.Below.chart_lines.declared.charts.statement.Mark.TheVariants as mark
use Rattle.wiring_table.specs.Below.chart_line_rules.PrintRules.Items.{mark_width}
use Rattle.print_unit.specs.ZeroControl.{Wheel}
use Rattle.proof_reports.specs.PrintedLines.Shown.{digit_set, point_sets, mark_sets}
use Rattle.proof_reports.proofs.PrintedLines.AmountText.{amount_wheels}
use Rattle.proof_reports.proofs.PrintedLines.Characters.{received}

-- what is made of places and sets
pub by_places : {X : Type 0} → (ℕ → ℕ → X) → ℕ → List ℕ → List X
by_places make place [] = []
by_places make place (set ∷ sets) = make place set ∷ by_places make (suc place) sets

-- what wheels have from a number on, where each has it by its place and its set
pub wheels-places : {X : Type 0} (make : ℕ → ℕ → X) (wheel : ℕ → X) (from place : ℕ) (sets : List ℕ)
    → ((k : ℕ) → k < length sets → wheel (from + k) ≡ make (place + k) (slice_index_or sets k 0))
    → map wheel (range_with_len from (length sets)) ≡ by_places make place sets
unfolding by_places
wheels-places make wheel from place [] each = refl
wheels-places make wheel from place (set ∷ sets) each =
    let first : from + 0 ≡ from = omega arith in
    let first_place : place + 0 ≡ place = omega arith in
    ap₂ (λ w ws. w ∷ ws) (sym (ap wheel first) ∙ each 0 (omega arith) ∙ ap (λ p. make p set) first_place)
    (wheels-places make wheel (from + 1) (suc place) sets
    (λ k below.
    let next : from + 1 + k ≡ from + suc k = omega arith in
    let next_place : place + suc k ≡ suc place + k = omega arith in
    ap wheel next ∙ each (suc k) (omega (arith, below)) ∙ ap (λ p. make p (slice_index_or sets k 0)) next_place))

-- places go on after the first sets
by_places-append : {X : Type 0} (make : ℕ → ℕ → X) (place : ℕ) (one other : List ℕ)
    → by_places make place (one ++ other) ≡ by_places make place one ++ by_places make (place + length one) other
unfolding by_places
by_places-append make place [] other = ap (λ p. by_places make p other) (omega arith)
by_places-append make place (set ∷ sets) other =
    ap (λ ws. make place set ∷ ws)
    (by_places-append make (suc place) sets other
    ∙ ap (λ p. by_places make (suc place) sets ++ by_places make p other) (omega arith))

-- where places make no difference all is made of the sets alone
pub by_places-alike : {X : Type 0} (make : ℕ → ℕ → X) (of_set : ℕ → X) (place : ℕ) (sets : List ℕ)
    → ((p set : ℕ) → place ≤ p → p < place + length sets → make p set ≡ of_set set)
    → by_places make place sets ≡ map of_set sets
unfolding by_places
by_places-alike make of_set place [] alike = refl
by_places-alike make of_set place (set ∷ sets) alike =
    ap₂ (λ w ws. w ∷ ws) (alike place set (omega arith) (omega arith))
    (by_places-alike make of_set (suc place) sets (λ p s low high. alike p s (omega (arith, low)) (omega (arith, high))))

-- what is made of what is made
map-twice : {X : Type 0} (one : ℕ → Wheel) (other : X → ℕ) (xs : List X) → map one (map other xs) ≡ map (λ x. one (other x)) xs
map-twice one other [] = refl
map-twice one other (x ∷ xs) = ap (λ ys. one (other x) ∷ ys) (map-twice one other xs)

-- the sets of an amount, by the digits that may be blank and those that always print
abbrev pub amount_sets : (free decimals : ℕ) → Option Mark → List (Option ℕ) → Bool → List ℕ
amount_sets free decimals mark columns negative =
    map digit_set (take free columns)
    ++ (point_sets decimals ++ (map digit_set (drop free columns) ++ mark_sets mark negative))

-- a wheel of an amount, by its place
abbrev pub item_wheel : (free start place set : ℕ) → Wheel
item_wheel free start place set =
    record { received = received set; link = true; suppress = nat_lt place free; symbol = nat_le start place }

-- how many sets the point has, and the mark
pub point-sets : (decimals : ℕ) → length (point_sets decimals) ≡ (if nat_lt 0 decimals then 1 else 0)
point-sets zero = refl
point-sets (suc decimals) = grind (arith, nat_tests)

pub mark-sets : (mark : Option Mark) (negative : Bool) → length (mark_sets mark negative) ≡ mark_width mark
mark-sets None negative = refl
mark-sets (Some mark.Credit) negative = refl
mark-sets (Some mark.Minus) negative = refl

-- a wheel with its jacks
with_jacks : (suppress symbol : Bool) → ℕ → Wheel
with_jacks suppress symbol set = record { received = received set; link = true; suppress = suppress; symbol = symbol }

item_wheel-jacks : (free start place set : ℕ) (suppress symbol : Bool) → nat_lt place free ≡ suppress → nat_le start place ≡ symbol
    → item_wheel free start place set ≡ with_jacks suppress symbol set
unfolding with_jacks
item_wheel-jacks free start place set suppress symbol free_it marks_it =
    λ i. record { received = received set; link = true; suppress = free_it i; symbol = marks_it i }

-- the tests by which a place is that of a digit that may be blank, of another digit or the point, or of the mark
high_place : (free start place : ℕ) → place < free → free ≤ start → (nat_lt place free ≡ true) × (nat_le start place ≡ false)
high_place free start place below short = (grind (arith, nat_tests, below), grind (arith, nat_tests, below, short))

low_place : (free start place : ℕ) → free ≤ place → place < start → (nat_lt place free ≡ false) × (nat_le start place ≡ false)
low_place free start place low high = (grind (arith, nat_tests, low), grind (arith, nat_tests, high))

mark_place : (free start place : ℕ) → free ≤ start → start ≤ place → (nat_lt place free ≡ false) × (nat_le start place ≡ true)
mark_place free start place short low = (grind (arith, nat_tests, short, low), grind (arith, nat_tests, low))

-- wheels by their places are the wheels of the amount
pub places-amount : (free decimals start : ℕ) (mark : Option Mark) (columns : List (Option ℕ)) (negative : Bool)
    → free ≤ length columns → start ≡ length columns + (if nat_lt 0 decimals then 1 else 0)
    → by_places (item_wheel free start) 0 (amount_sets free decimals mark columns negative)
    ≡ amount_wheels free decimals mark columns negative
unfolding with_jacks
places-amount free decimals start mark columns negative short begins =
    by_places-append make 0 high (point_sets decimals ++ (low ++ mark_sets mark negative))
    ∙ ap₂ (λ one other. one ++ other)
    (by_places-alike make (with_jacks true false) 0 high
    (λ p set above below.
    let tests = high_place free start p (omega (arith, below, highs)) (omega (arith, starts, short)) in
    item_wheel-jacks free start p set true false tests.0 tests.1)
    ∙ map-twice (with_jacks true false) digit_set (take free columns))
    (by_places-append make (0 + length high) (point_sets decimals) (low ++ mark_sets mark negative)
    ∙ ap₂ (λ one other. one ++ other)
    (by_places-alike make (with_jacks false false) (0 + length high) (point_sets decimals)
    (λ p set above below.
    let tests = low_place free start p (omega (arith, above, highs)) (omega (arith, below, highs, short, starts)) in
    item_wheel-jacks free start p set false false tests.0 tests.1))
    (by_places-append make (0 + length high + length (point_sets decimals)) low (mark_sets mark negative)
    ∙ ap₂ (λ one other. one ++ other)
    (by_places-alike make (with_jacks false false) (0 + length high + length (point_sets decimals)) low
    (λ p set above below.
    let tests = low_place free start p (omega (arith, above, highs)) (omega (arith, below, highs, lows, short, starts)) in
    item_wheel-jacks free start p set false false tests.0 tests.1)
    ∙ map-twice (with_jacks false false) digit_set (drop free columns))
    (by_places-alike make (with_jacks false true) (0 + length high + length (point_sets decimals) + length low)
    (mark_sets mark negative)
    (λ p set above below.
    let tests = mark_place free start p (omega (arith, starts, short)) (omega (arith, above, highs, lows, short, starts)) in
    item_wheel-jacks free start p set false true tests.0 tests.1))))
  where
    make : ℕ → ℕ → Wheel
    make = item_wheel free start

    high : List ℕ
    high = map digit_set (take free columns)

    low : List ℕ
    low = map digit_set (drop free columns)

    highs : length high ≡ free
    highs = let taken = length-take free columns in length-map (take free columns) digit_set ∙ taken ∙ omega (arith, short)

    lows : length low ≡ length columns - free
    lows = length-map (drop free columns) digit_set ∙ length-drop free columns

    starts : start ≡ length columns + length (point_sets decimals)
    starts = begins ∙ ap (λ n. length columns + n) (sym (point-sets decimals))
