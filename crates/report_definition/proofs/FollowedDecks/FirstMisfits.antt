-- The first misfit of a deck, and the groups that fit before it.
use Rattle.std.proofs.Common.{◌≡◌, ◌∙◌, refl, sym, ap, subst, ℕ, zero, suc, ◌+◌, ◌≤◌, nat_le, Bool, true, false, ◌⊎◌, inl, inr, List, [], ◌∷◌, ◌++◌, Some, arith}
use Rattle.std.proofs.lemmas.Bool.Decides.{nat_tests}
use Rattle.chart_lines.specs.declared.charts.chart.Line.{Line}
use Rattle.report_definition.specs.Breaks.{ended_after, no_cards, taking, cleared}
use Rattle.report_definition.specs.Misfits.{Misfit, misfits_in, first_of}
use Rattle.report_definition.specs.Totals.{GroupFits}
use Rattle.report_definition.proofs.GroupMisfits.{group_fits, no_misfit_in}
use Rattle.report_definition.specs.FollowedDecks.CardMisfits.{misfits_to, misfits_from, GroupsFit, FitFrom}
use Rattle.report_definition.specs.FollowedDecks.Laws.{GroupsFitBeforeTheFirstMisfit}
use Rattle.report_definition.proofs.FollowedDecks.Numbered.{first-card}
use Rattle.report_definition.proofs.FollowedDecks.Misfits.{misfits_of_cards}

-- the first of two lists is in one of them
first-append : (one other : List Misfit) (misfit : Misfit) → first_of (one ++ other) ≡ Some misfit
    → (first_of one ≡ Some misfit) ⊎ (first_of other ≡ Some misfit)
first-append [] other misfit first = inr first
first-append (some ∷ more) other misfit first = inl first

-- a list without a first misfit is empty
no_first : (all : List Misfit) → ((misfit : Misfit) → first_of all ≡ Some misfit → ⊥) → all ≡ []
no_first [] none = refl
no_first (misfit ∷ others) none = absurd (none misfit refl)

-- two lists that are empty together are empty
both_empty : (one other : List Misfit) → one ++ other ≡ [] → (one ≡ []) × (other ≡ [])
both_empty [] other none = (refl, none)
both_empty (some ∷ more) other none = absurd cc

-- without misfits all groups fit
groups_fit : (lines : List Line) (card level : ℕ) (groups : ℕ → List (List ℕ)) → misfits_to lines card level groups ≡ []
    → GroupsFit lines level groups
groups_fit lines card zero groups none number some few = absurd (omega (arith, some, few))
groups_fit lines card (suc level) groups none number some few =
    by (nat_le number level) refl
    (both_empty (misfits_to lines card level groups) (misfits_in lines (suc level) card (groups (suc level))) none)
    (λ below. groups_fit lines card level groups below number some)
  where
    by : (b : Bool) → nat_le number level ≡ b
        → (misfits_to lines card level groups ≡ []) × (misfits_in lines (suc level) card (groups (suc level)) ≡ [])
        → (misfits_to lines card level groups ≡ [] → number ≤ level → GroupFits lines number (groups number))
        → GroupFits lines number (groups number)
    by true is empty more = more empty.0 (grind (arith, nat_tests, is))
    by false is empty more =
        let last : suc level ≡ number = grind (arith, nat_tests, is, few) in
        subst (λ n. GroupFits lines n (groups n)) last (group_fits lines (suc level) card (groups (suc level)) empty.1)

-- where all groups fit there are no misfits
no_misfits : (lines : List Line) (card level : ℕ) (groups : ℕ → List (List ℕ)) → GroupsFit lines level groups
    → misfits_to lines card level groups ≡ []
no_misfits lines card zero groups fit = refl
no_misfits lines card (suc level) groups fit =
    let below = no_misfits lines card level groups (λ number some few. fit number some (omega (arith, few))) in
    let group = no_misfit_in lines (suc level) card (groups (suc level)) (fit (suc level) (omega arith) (omega arith)) in
    λ i. below i ++ group i

-- the first misfit of a card and the cards after it is not before it
pub first-least : (lines : List Line) (number : ℕ) (so_far : ℕ → List (List ℕ)) (card : List ℕ) (cards : List (List ℕ))
    (misfit : Misfit) → first_of (misfits_from lines number so_far card cards) ≡ Some misfit → number ≤ misfit.card
first-least lines number so_far card [] misfit first =
    let is = first-card lines number 4 (taking card so_far) misfit first in omega (arith, is)
first-least lines number so_far card (next ∷ cards) misfit first =
    let ended = ended_after lines card (Some next) in
    by (first-append (misfits_to lines number ended (taking card so_far))
    (misfits_from lines (number + 1) (cleared ended (taking card so_far)) next cards) misfit first)
    (first-card lines number ended (taking card so_far) misfit)
    (first-least lines (number + 1) (cleared ended (taking card so_far)) next cards misfit)
  where
    by : {One Other : Type 0} → One ⊎ Other → (One → misfit.card ≡ number) → (Other → number + 1 ≤ misfit.card)
        → number ≤ misfit.card
    by (inl one) here later = let is = here one in omega (arith, is)
    by (inr other) here later = let is = later other in omega (arith, is)

-- where groups fit, a misfit comes later
fit-first : (lines : List Line) (number : ℕ) (so_far : ℕ → List (List ℕ)) (card : List ℕ) (cards : List (List ℕ))
    (count : ℕ) (misfit : Misfit) → FitFrom lines so_far card cards count
    → first_of (misfits_from lines number so_far card cards) ≡ Some misfit → number + count ≤ misfit.card
fit-first lines number so_far card cards zero misfit fit first =
    let least = first-least lines number so_far card cards misfit first in omega (arith, least)
fit-first lines number so_far card [] (suc count) misfit fit first =
    let none = no_misfits lines number 4 (taking card so_far) fit in absurd cc
fit-first lines number so_far card (next ∷ cards) (suc count) misfit fit first =
    let ended = ended_after lines card (Some next) in
    let none = no_misfits lines number ended (taking card so_far) fit.0 in
    let others = misfits_from lines (number + 1) (cleared ended (taking card so_far)) next cards in
    let later = fit-first lines (number + 1) (cleared ended (taking card so_far)) next cards count misfit fit.1
    (sym (ap (λ l. first_of (l ++ others)) none) ∙ first) in
    omega (arith, later)

-- where a misfit comes later, groups fit
first-fit : (lines : List Line) (number : ℕ) (so_far : ℕ → List (List ℕ)) (card : List ℕ) (cards : List (List ℕ))
    (count : ℕ)
    → ((misfit : Misfit) → first_of (misfits_from lines number so_far card cards) ≡ Some misfit → number + count ≤ misfit.card)
    → FitFrom lines so_far card cards count
first-fit lines number so_far card cards zero later = tt
first-fit lines number so_far card [] (suc count) later =
    groups_fit lines number 4 (taking card so_far)
    (no_first (misfits_to lines number 4 (taking card so_far))
    (λ misfit first.
    let here = first-card lines number 4 (taking card so_far) misfit first in
    let far = later misfit first in
    omega (arith, here, far)))
first-fit lines number so_far card (next ∷ cards) (suc count) later =
    let ended = ended_after lines card (Some next) in
    let others = misfits_from lines (number + 1) (cleared ended (taking card so_far)) next cards in
    let none : misfits_to lines number ended (taking card so_far) ≡ [] =
    no_first (misfits_to lines number ended (taking card so_far))
    (λ misfit first.
    let here = first-card lines number ended (taking card so_far) misfit first in
    let far = later misfit (in_front (misfits_to lines number ended (taking card so_far)) others misfit first) in
    omega (arith, here, far)) in (
      groups_fit lines number ended (taking card so_far) none,
      first-fit lines (number + 1) (cleared ended (taking card so_far)) next cards count
          (λ misfit first.
          let far = later misfit (ap (λ l. first_of (l ++ others)) none ∙ first) in
          omega (arith, far)),
    )
  where
    in_front : (one other : List Misfit) (misfit : Misfit) → first_of one ≡ Some misfit
        → first_of (one ++ other) ≡ Some misfit
    in_front [] other misfit first = absurd cc
    in_front (some ∷ more) other misfit first = first

pub fit_before_first : GroupsFitBeforeTheFirstMisfit
fit_before_first lines [] count = ((λ fit misfit first. absurd cc), (λ later. tt))
fit_before_first lines (card ∷ cards) count =
    let same = ap first_of (misfits_of_cards lines (card ∷ cards)) in (
      (λ fit misfit first.
          let late = fit-first lines 1 no_cards card cards count misfit fit (sym same ∙ first) in
          omega (arith, late)),
      (λ later. first-fit lines 1 no_cards card cards count
          (λ misfit first.
          let late = later misfit (same ∙ first) in
          omega (arith, late))),
    )
