-- What a loop over a list leaves.
use Rattle.std.proofs.Common.{◌≡◌, ◌∙◌, refl, sym, ap, ap₂, ℕ, zero, suc, ◌+◌, ◌-◌, ◌<◌, ◌≤◌, nat_le, Bool, true, false, List, [], ◌∷◌, ◌++◌, length, map, take, drop, drop-cons, get_or, Option, Some, None, pos, if◌then◌else◌, arith}
use Rattle.std.specs.List.{cons_option, filter_map}
use Rattle.std.proofs.lemmas.Bool.Decides.{nat_tests}
use Rattle.std.proofs.lemmas.Grind.{common_steps}
use Rattle.chart_lines.specs.ChartsWords.Levels.{level_number}
use Rattle.chart_lines.specs.declared.charts.level.Level.{Level}
use Rattle.chart_lines.specs.declared.charts.level.Level.TheVariants as level
use Rattle.report_definition.specs.Misfits.{Misfit, first_of}
use Rattle.report_misfits.specs.HelperTotals.{misfits_among}
use Rattle.report_misfits.specs.OpenTotals.{closed_to, misfit_at}
use Rattle.report_misfits.specs.declared.open_total.OpenTotal.{OpenTotal}

-- an element that the loop has not come to is as it was
pub here : {X : Type 0} (f : X → X) (xs ys : List X) (i : ℕ) (x : X) → i < length xs → ys ≡ map f (take i xs) ++ drop i xs
    → x ≡ get_or ys i x → x ≡ get_or xs i x
here f xs ys i x within is at = at ∙ ap (λ l. get_or l i x) is ∙ grind (arith, common_steps, within)

-- the first element and those after it
pub rest : {X : Type 0} (xs : List X) (i : ℕ) (x : X) → i < length xs → x ≡ get_or xs i x → drop i xs ≡ x ∷ drop (i + 1) xs
rest xs i x within at =
    let next : suc i ≡ i + 1 = omega arith in
    drop-cons xs i x within ∙ ap (λ y. y ∷ drop (suc i) xs) (sym at) ∙ ap (λ n. x ∷ drop n xs) next

-- where nothing is told of an element, what is told is told of those after it
pub told_later : {X : Type 0} (tells : X → Option Misfit) (xs : List X) (i : ℕ) (x : X) → i < length xs → x ≡ get_or xs i x
    → tells x ≡ None → first_of (filter_map tells (drop i xs)) ≡ first_of (filter_map tells (drop (i + 1) xs))
told_later tells xs i x within at none =
    ap (λ l. first_of (filter_map tells l)) (rest xs i x within at)
    ∙ ap (λ o. first_of (cons_option o (filter_map tells (drop (i + 1) xs)))) none

-- where something is, it is the first
pub told_first : {X : Type 0} (tells : X → Option Misfit) (xs : List X) (i : ℕ) (x : X) (misfit : Misfit) → i < length xs
    → x ≡ get_or xs i x → tells x ≡ Some misfit → first_of (filter_map tells (drop i xs)) ≡ Some misfit
told_first tells xs i x misfit within at some =
    ap (λ l. first_of (filter_map tells l)) (rest xs i x within at)
    ∙ ap (λ o. first_of (cons_option o (filter_map tells (drop (i + 1) xs)))) some

-- a list without a first misfit is empty
pub no_first : (all : List Misfit) → first_of all ≡ None → all ≡ []
no_first [] none = refl
no_first (misfit ∷ others) none = cc

-- the first misfit of the lower levels is the first
pub first-append : (one other : List Misfit) (misfit : Misfit) → first_of one ≡ Some misfit → first_of (one ++ other) ≡ Some misfit
first-append [] other misfit first = cc
first-append (some ∷ more) other misfit first = first

pub first_among : (totals : List OpenTotal) (card level ended : ℕ) (misfit : Misfit) → level ≤ ended
    → first_of (misfits_among totals card level) ≡ Some misfit → first_of (misfits_among totals card ended) ≡ Some misfit
first_among totals card level zero misfit few first =
    let same : level ≡ zero = omega (arith, few) in ap (λ n. first_of (misfits_among totals card n)) (sym same) ∙ first
first_among totals card level (suc ended) misfit few first =
    by (nat_le level ended) refl (first_among totals card level ended misfit)
  where
    by : (b : Bool) → nat_le level ended ≡ b
        → (level ≤ ended → first_of (misfits_among totals card level) ≡ Some misfit → first_of (misfits_among totals card ended) ≡ Some misfit)
        → first_of (misfits_among totals card (suc ended)) ≡ Some misfit
    by true is lower =
        first-append (misfits_among totals card ended) (filter_map (misfit_at (suc ended) card) totals) misfit
        (lower (grind (arith, nat_tests, is)) first)
    by false is lower =
        let same : suc ended ≡ level = grind (arith, nat_tests, is, few) in
        ap (λ n. first_of (misfits_among totals card n)) same ∙ first

-- the first misfit of a level below which there is none
pub first_at_level : (totals : List OpenTotal) (card level ended : ℕ) (misfit : Misfit) → 1 ≤ level → level ≤ ended
    → misfits_among totals card (level - 1) ≡ [] → Some misfit ≡ first_of (filter_map (misfit_at level card) totals)
    → Some misfit ≡ first_of (misfits_among totals card ended)
first_at_level totals card level ended misfit some few none first =
    sym (first_among totals card level ended misfit few
    (ap (λ n. first_of (misfits_among totals card n)) (sym next)
    ∙ ap (λ l. first_of (l ++ filter_map (misfit_at (suc (level - 1)) card) totals)) none
    ∙ ap (λ n. first_of (filter_map (misfit_at n card) totals)) next
    ∙ sym first))
  where
    next : suc (level - 1) ≡ level
    next = omega (arith, some)

-- where no group ends, all totals stay
pub none-closed : (totals : List OpenTotal) (ended : ℕ) → ended ≡ 0 → totals ≡ map (closed_to ended) totals
none-closed totals ended none = all totals ∙ ap (λ n. map (closed_to n) totals) (sym none)
  where
    open_yet : (total : OpenTotal) → total ≡ closed_to 0 total
    open_yet total = by total.level
      where
        by : (level : Level) → total ≡ (if nat_le (level_number level) 0 then record total { sum = pos 0 } else total)
        by level.Minor = refl
        by other = refl

    all : (some : List OpenTotal) → some ≡ map (closed_to 0) some
    all [] = refl
    all (total ∷ some) = ap₂ (λ first others. first ∷ others) (open_yet total) (all some)
