-- The totals that end with the first cards of a deck fit exactly where its first misfit is at a later card.
use Rattle.std.proofs.Common.{◌≡◌, ap, subst, refl, ℕ, ◌+◌, ◌≤◌, ◌<◌, List, [], ◌∷◌, ◌++◌, Some, length, arith}
use Rattle.std.specs.List.{All}
use Rattle.std.proofs.lemmas.List.{length-append}
use Rattle.std.proofs.lemmas.List.Elements.{All-nil, All-append, All-head, All-weaker}
use Rattle.chart_lines.specs.ChartsWords.Levels.{level_number}
use Rattle.chart_lines.specs.declared.charts.chart.Line.{Line}
use Rattle.report_definition.specs.Groups.{cards_of, groups_in}
use Rattle.report_definition.specs.Outline.{OutlineLine, Detail, Total, outline_of}
use Rattle.report_definition.specs.Misfits.{Misfit, first_of, misfits, misfits_after, misfits_in}
use Rattle.report_definition.specs.Totals.{GroupFits}
use Rattle.report_definition.proofs.Fitting.{level_range, numbered}
use Rattle.report_definition.proofs.FittingGroups.{FitIn, IsLate, late_within, within_late}
use Rattle.report_definition.proofs.GroupMisfits.{misfits_numbered}
use Rattle.report_definition.specs.FollowedDecks.FitBefore.{FitBefore}
use Rattle.report_definition.specs.FollowedDecks.Laws.{MisfitsAreLater, TotalsFitBeforeTheFirstMisfit}

-- a misfit after no fewer cards
abbrev IsFrom : ℕ → Misfit → Type 0
IsFrom cards misfit = cards ≤ misfit.card

-- and after more
abbrev IsAfter : ℕ → Misfit → Type 0
IsAfter count misfit = count < misfit.card

-- the misfits of lines of an outline are after the cards before these
misfits-from : (lines : List Line) (cards : ℕ) (some : List OutlineLine) → All (IsFrom cards) (misfits_after lines cards some)
misfits-from lines cards [] = All-nil (IsFrom cards)
misfits-from lines cards (Detail opens card ∷ others) =
    All-weaker (IsFrom (cards + 1)) (IsFrom cards) (λ misfit late. omega (arith, late)) (misfits_after lines (cards + 1) others)
    (misfits-from lines (cards + 1) others)
misfits-from lines cards (Total level group ∷ others) =
    All-append (IsFrom cards) (misfits_in lines level cards group) (misfits_after lines cards others)
    (All-weaker (λ (misfit : Misfit). misfit.card ≡ cards) (IsFrom cards) (λ misfit at. omega (arith, at)) (misfits_in lines level cards group)
    (misfits_numbered lines level cards group))
    (misfits-from lines cards others)

-- where the first misfit is after so many cards, all are
all-after : (lines : List Line) (count cards : ℕ) (some : List OutlineLine)
    → ((misfit : Misfit) → first_of (misfits_after lines cards some) ≡ Some misfit → count < misfit.card)
    → All (IsAfter count) (misfits_after lines cards some)
all-after lines count cards [] first = All-nil (IsAfter count)
all-after lines count cards (Detail opens card ∷ others) first = all-after lines count (cards + 1) others first
all-after lines count cards (Total level group ∷ others) first =
    by (misfits_in lines level cards group) (misfits_numbered lines level cards group) first (all-after lines count cards others)
  where
    by : (here : List Misfit) → All (λ (misfit : Misfit). misfit.card ≡ cards) here
        → ((misfit : Misfit) → first_of (here ++ misfits_after lines cards others) ≡ Some misfit → count < misfit.card)
        → (((misfit : Misfit) → first_of (misfits_after lines cards others) ≡ Some misfit → count < misfit.card) → All (IsAfter count) (misfits_after lines cards others))
        → All (IsAfter count) (here ++ misfits_after lines cards others)
    by [] all late more = more late
    by (misfit ∷ here) all late more =
        let at = All-head (λ (one : Misfit). one.card ≡ cards) misfit here all in
        let after = late misfit refl in
        let far : count < cards = omega (arith, at, after) in
        All-append (IsAfter count) (misfit ∷ here) (misfits_after lines cards others)
        (All-weaker (λ (one : Misfit). one.card ≡ cards) (IsAfter count) (λ one same. omega (arith, far, same)) (misfit ∷ here) all)
        (All-weaker (IsFrom cards) (IsAfter count) (λ one from. omega (arith, far, from)) (misfits_after lines cards others)
        (misfits-from lines cards others))

-- numbers of cards up to one
abbrev UpTo : ℕ → ℕ → Type 0
UpTo count cards = cards ≤ count

module _ (lines : List Line) (count level : ℕ) where
  -- groups that end with so many cards fit, one after another and each by those before it
  fit_in : (cards : ℕ) (groups : List (List (List ℕ)))
      → ((earlier later : List (List (List ℕ))) (group : List (List ℕ)) → groups ≡ earlier ++ (group ∷ later)
      → cards + (length (cards_of earlier) + length group) ≤ count → GroupFits lines level group)
      → FitIn lines (UpTo count) level cards groups
  fit_in cards [] each = tt
  fit_in cards (group ∷ groups) each = (
    λ few. each [] groups group refl (omega (arith, few)),
    fit_in (cards + length group) groups
        (λ earlier later one is few.
        let long = length-append group (cards_of earlier) in
        each (group ∷ earlier) later one (ap (λ l. group ∷ l) is) (omega (arith, few, long))),
  )

  each_in : (cards : ℕ) (earlier later : List (List (List ℕ))) (group : List (List ℕ))
      → FitIn lines (UpTo count) level cards (earlier ++ (group ∷ later))
      → cards + (length (cards_of earlier) + length group) ≤ count → GroupFits lines level group
  each_in cards [] later group fit few = fit.0 (omega (arith, few))
  each_in cards (one ∷ earlier) later group fit few =
      let long = length-append one (cards_of earlier) in
      each_in (cards + length one) earlier later group fit.1 (omega (arith, few, long))

pub fit_before_misfits : TotalsFitBeforeTheFirstMisfit
fit_before_misfits lines [] count = ((λ fit misfit first. absurd cc), (λ later level earlier others group is few. absurd (none earlier others group is)))
  where
    none : (earlier others : List (List (List ℕ))) (group : List (List ℕ)) → [] ≡ earlier ++ (group ∷ others) → ⊥
    none [] others group is = cc
    none (one ∷ earlier) others group is = cc
fit_before_misfits lines (card ∷ cards) count = (before, later)
  where
    before : FitBefore lines (card ∷ cards) count → MisfitsAreLater lines (card ∷ cards) count
    before fit misfit first =
        of (misfits lines (card ∷ cards))
        (within_late lines (UpTo count) (card ∷ cards)
        (λ number some few.
        let found = numbered number some few in
        subst (λ l. FitIn lines (UpTo count) l 0 (groups_in lines 4 l (card ∷ cards))) found.1
        (fit_in lines count (level_number found.0) 0 (groups_in lines 4 (level_number found.0) (card ∷ cards))
        (λ earlier others group is most. fit found.0 earlier others group is (omega (arith, most))))))
        first
      where
        same_card : (one : Misfit) → Some one ≡ Some misfit → one.card ≡ misfit.card
        same_card one is = let same : one ≡ misfit = cc in ap (λ (m : Misfit). m.card) same

        of : (some : List Misfit) → All (IsLate lines (UpTo count)) some → first_of some ≡ Some misfit → count < misfit.card
        of [] late is = absurd cc
        of (one ∷ more) late is =
            let same = same_card one is in
            let not : one.card ≤ count → ⊥ = All-head (IsLate lines (UpTo count)) one more late in
            grind (arith, same, not)

    later : MisfitsAreLater lines (card ∷ cards) count → FitBefore lines (card ∷ cards) count
    later late level earlier others group is few =
        let range = level_range level in
        let all = late_within lines (UpTo count) (card ∷ cards)
        (All-weaker (IsAfter count) (IsLate lines (UpTo count)) (λ misfit after counts. omega (arith, after, counts)) (misfits lines (card ∷ cards))
        (all-after lines count 0 (outline_of lines (card ∷ cards)) late)) (level_number level) range.0 range.1 in
        each_in lines count (level_number level) 0 earlier others group
        (subst (FitIn lines (UpTo count) (level_number level) 0) is all) (omega (arith, few))
