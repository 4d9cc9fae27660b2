-- The digits of eight sets at once, as lanes.
use Rattle.std.proofs.Common.{◌≡◌, ◌∙◌, refl, sym, ap, subst, ℕ, zero, suc, ◌+◌, ◌-◌, ◌%◌, ◌<◌, ◌≤◌, ◌==◌, Bool, true, false, List, [], ◌∷◌, All, length, map, replicate, take, get_or, bit_or, arith, if◌then◌else◌, w8, w16}
use Rattle.std.specs.Int.{trailing_zeros}
use Rattle.std.specs.Simd.Lanes.{Each1, sel_l, top, zip2}
use Rattle.std.proofs.lemmas.List.{get_or-take, length-take-le}
use Rattle.std.proofs.lemmas.List.Elements.{All-cons, All-head, All-nil, All-tail}
use Rattle.std.proofs.lemmas.Simd.{tops_compared}
use Rattle.counters.specs.AllRows.{digit_entered, earliest_digit}
use Rattle.counters.specs.Laws.{IsDigit}
use Rattle.counters.proofs.SetDigits.{earliest-found}

-- the places of the first rows of sets that have row 0
abbrev first_places : ℕ → List ℕ → List ℕ
first_places count sets = map (trailing_zeros w16) (zip2 bit_or sets (replicate count 512))

-- such a place is 9 at most
pub places-low : (count : ℕ) (sets : List ℕ) → ((i : ℕ) → get_or sets i 0 < 65536) → Each1 (λ place. place ≤ 9) (first_places count sets)
places-low zero [] small = tt
places-low zero (s ∷ sets) small = tt
places-low (suc count) [] small = tt
places-low (suc count) (s ∷ sets) small = ((earliest-found s (small 0)).0, places-low count sets (λ i. small (suc i)))

-- and stays so in narrower lanes
pub narrow-low : (places : List ℕ) → Each1 (λ place. place ≤ 9) places → Each1 (λ place. place ≤ 9) (map (λ place. place) places)
narrow-low [] low = tt
narrow-low (place ∷ places) low = (low.0, narrow-low places low.1)

-- 9 less a place is the digit of the set
pub lanes-earliest : (sets : List ℕ) (count : ℕ) → length sets ≡ count → ((i : ℕ) → get_or sets i 0 < 65536)
    → zip2 (λ nine place. (nine + (256 - place)) % 256) (replicate count 9) (map (λ place. place) (map (λ place. place) (first_places count sets)))
    ≡ map earliest_digit sets
lanes-earliest [] zero long small = refl
lanes-earliest [] (suc count) long small = absurd (omega (arith, long))
lanes-earliest (s ∷ sets) zero long small = absurd (omega (arith, long))
lanes-earliest (s ∷ sets) (suc count) long small =
    let found = earliest-found s (small 0) in
    ap (λ d. d ∷ zip2 (λ nine place. (nine + (256 - place)) % 256) (replicate count 9)
    (map (λ place. place) (map (λ place. place) (first_places count sets)))) (less (trailing_zeros w16 (bit_or s 512)) found.0 ∙ found.1)
    ∙ ap (λ ds. earliest_digit s ∷ ds) (lanes-earliest sets count (omega (arith, long)) (λ i. small (suc i)))
  where
    less : (place : ℕ) → place ≤ 9 → (9 + (256 - place)) % 256 ≡ 9 - place
    less place low = omega (arith, low)

-- the first sets are words too
pub first_sets-small : (count : ℕ) (sets : List ℕ) → ((i : ℕ) → get_or sets i 0 < 65536) → (i : ℕ) → get_or (take count sets) i 0 < 65536
first_sets-small zero sets small i = omega arith
first_sets-small (suc count) [] small i = omega arith
first_sets-small (suc count) (s ∷ sets) small zero = small 0
first_sets-small (suc count) (s ∷ sets) small (suc i) = first_sets-small count sets (λ i. small (suc i)) i

-- the digits of sets where nothing was entered, and elsewhere what was
abbrev chosen : ℕ → List ℕ → List ℕ → List ℕ
chosen count sets entered = sel_l (zip2 (λ a b. a == b) entered (replicate count 0)) (map earliest_digit sets) entered

-- each is what is entered at its place
chosen-at : (count : ℕ) (sets entered : List ℕ) (k : ℕ) → length sets ≡ count → length entered ≡ count → k < count
    → get_or (chosen count sets entered) k 0 ≡ digit_entered (get_or sets k 0) (get_or entered k 0)
chosen-at zero sets entered k long as_long near = absurd (omega (arith, near))
chosen-at (suc count) [] entered k long as_long near = absurd (omega (arith, long))
chosen-at (suc count) (s ∷ sets) [] k long as_long near = absurd (omega (arith, as_long))
chosen-at (suc count) (s ∷ sets) (e ∷ entered) zero long as_long near = refl
chosen-at (suc count) (s ∷ sets) (e ∷ entered) (suc k) long as_long near =
    chosen-at count sets entered k (omega (arith, long)) (omega (arith, as_long)) (omega (arith, near))

-- and a digit
chosen-digits : (count : ℕ) (sets entered : List ℕ) → ((i : ℕ) → get_or sets i 0 < 65536) → All IsDigit entered
    → All IsDigit (chosen count sets entered)
chosen-digits count sets [] small all = All-nil IsDigit
chosen-digits zero sets (e ∷ entered) small all = All-nil IsDigit
chosen-digits (suc count) [] (e ∷ entered) small all = All-nil IsDigit
chosen-digits (suc count) (s ∷ sets) (e ∷ entered) small all =
    All-cons IsDigit (digit_entered s e) (chosen count sets entered) (digit (e == 0))
    (chosen-digits count sets entered (λ i. small (suc i)) (All-tail IsDigit e entered all))
  where
    earliest : earliest_digit s ≤ 9
    earliest = let is = (earliest-found s (small 0)).1 in omega (arith, is)

    digit : (b : Bool) → (if b then earliest_digit s else e) ≤ 9
    digit true = earliest
    digit false = All-head IsDigit e entered all

-- the lanes that are selected are those
lanes : (sets digits entered : List ℕ) → digits ≡ map earliest_digit (take 8 sets)
    → sel_l (map (top 7) (zip2 (λ a b. if a == b then 255 else 0) entered (replicate 8 0))) digits entered ≡ chosen 8 (take 8 sets) entered
lanes sets digits entered is =
    ap (λ ms. sel_l ms digits entered) (tops_compared w8 (λ a b. a == b) entered (replicate 8 0))
    ∙ ap (λ ds. sel_l (zip2 (λ a b. a == b) entered (replicate 8 0)) ds entered) is

pub lanes-at : (sets digits entered : List ℕ) (k : ℕ) → digits ≡ map earliest_digit (take 8 sets)
    → 8 ≤ length sets → length entered ≡ 8 → k < 8
    → get_or (sel_l (map (top 7) (zip2 (λ a b. if a == b then 255 else 0) entered (replicate 8 0))) digits entered) k 0
    ≡ digit_entered (get_or sets k 0) (get_or entered k 0)
lanes-at sets digits entered k is long as_long near =
    ap (λ ds. get_or ds k 0) (lanes sets digits entered is)
    ∙ chosen-at 8 (take 8 sets) entered k (length-take-le 8 sets long) as_long near
    ∙ ap (λ s. digit_entered s (get_or entered k 0)) (get_or-take 8 sets k 0 near)

pub lanes-digits : (sets digits entered : List ℕ) → digits ≡ map earliest_digit (take 8 sets)
    → ((i : ℕ) → get_or sets i 0 < 65536) → All IsDigit entered
    → All IsDigit (sel_l (map (top 7) (zip2 (λ a b. if a == b then 255 else 0) entered (replicate 8 0))) digits entered)
lanes-digits sets digits entered is small all =
    subst (λ (ds : List ℕ). All IsDigit ds) (sym (lanes sets digits entered is))
    (chosen-digits 8 (take 8 sets) entered (first_sets-small 8 sets small) all)
