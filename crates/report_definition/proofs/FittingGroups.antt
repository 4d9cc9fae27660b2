-- The groups that end after some cards fit, by the total lines of an outline, by groups within groups, and by misfits.
use Rattle.std.proofs.Common.{◌≡◌, ◌∙◌, refl, sym, ap, subst, ℕ, zero, suc, ◌+◌, ◌≤◌, inl, inr, List, [], ◌∷◌, ◌++◌, length, arith}
use Rattle.std.specs.List.{All}
use Rattle.std.proofs.lemmas.List.{length-append}
use Rattle.std.proofs.lemmas.List.Elements.{All-nil, All-cons, All-head, All-tail, All-append}
use Rattle.chart_lines.specs.declared.charts.chart.Line.{Line}
use Rattle.report_definition.specs.Groups.{cards_of, groups_in, groups_within}
use Rattle.report_definition.specs.Outline.{OutlineLine, Detail, Total, by_parts, details, outline}
use Rattle.report_definition.specs.Misfits.{Misfit, misfits_after, misfits_in}
use Rattle.report_definition.specs.Totals.{GroupFits}
use Rattle.report_definition.proofs.GroupLaws.{cards_in, either, groups_whole, in_parts, lower, own}
use Rattle.report_definition.proofs.GroupMisfits.{group_fits, misfits_numbered, no_misfit_in}

-- a fact of two lists put together is one of each
pub All-parts : {X : Type 0} (P : X → Type 0) (one other : List X) → All P (one ++ other) → All P one × All P other
All-parts P [] other all = (All-nil P, all)
All-parts P (x ∷ one) other all =
    let more = All-parts P one other (All-tail P x (one ++ other) all) in
    (All-cons P x one (All-head P x (one ++ other) all) more.0, more.1)

-- how many cards an outline has
abbrev details_in : List OutlineLine → ℕ
details_in [] = 0
details_in (Detail opens card ∷ others) = suc (details_in others)
details_in (Total level group ∷ others) = details_in others

details_in-append : (one other : List OutlineLine) → details_in (one ++ other) ≡ details_in one + details_in other
details_in-append [] other = omega arith
details_in-append (Detail opens card ∷ one) other = let more = details_in-append one other in omega (arith, more)
details_in-append (Total level group ∷ one) other = details_in-append one other

details_in-details : (opens : ℕ) (cards : List (List ℕ)) → details_in (details opens cards) ≡ length cards
details_in-details opens [] = refl
details_in-details opens (card ∷ cards) = ap suc (details_in-details 0 cards)

-- the outline of a group has its cards
outline-cards : (lines : List Line) (above opens : ℕ) (group : List (List ℕ)) → details_in (outline lines above opens group) ≡ length group
outline-cards lines zero opens group = details_in-details opens group
outline-cards lines (suc above) opens group =
    details_in-append (by_parts (outline lines above) above opens (groups_within lines above group)) (Total (suc above) group ∷ [])
    ∙ sum _ _ (parts (outline-cards lines above) opens (groups_within lines above group) ∙ ap length (groups_whole lines above group))
  where
    sum : (a b : ℕ) → a ≡ b → a + 0 ≡ b
    sum a b same = omega (arith, same)

    parts : ((opens : ℕ) (part : List (List ℕ)) → details_in (outline lines above opens part) ≡ length part)
        → (opens : ℕ) (some : List (List (List ℕ)))
        → details_in (by_parts (outline lines above) above opens some) ≡ length (cards_of some)
    parts each opens [] = refl
    parts each opens (part ∷ more) =
        let here = each opens part in
        let others = parts each above more in
        details_in-append (outline lines above opens part) (by_parts (outline lines above) above above more)
        ∙ (λ i. here i + others i)
        ∙ sym (length-append part (cards_of more))

module _ (lines : List Line) (Counts : ℕ → Type 0) where
  -- the groups of the total lines of an outline fit that end after a number of cards that counts
  abbrev pub FitOn : ℕ → List OutlineLine → Type 0
  FitOn cards [] = Unit {0}
  FitOn cards (Detail opens card ∷ others) = FitOn (cards + 1) others
  FitOn cards (Total level group ∷ others) = (Counts cards → GroupFits lines level group) × FitOn cards others

  FitOn-join : (cards after : ℕ) (one other : List OutlineLine) → after ≡ cards + details_in one → FitOn cards one → FitOn after other
      → FitOn cards (one ++ other)
  FitOn-join cards after [] other far fit more = subst (λ n. FitOn n other) (omega (arith, far)) more
  FitOn-join cards after (Detail opens card ∷ one) other far fit more =
      FitOn-join (cards + 1) after one other (omega (arith, far)) fit more
  FitOn-join cards after (Total level group ∷ one) other far fit more = (fit.0, FitOn-join cards after one other far fit.1 more)

  FitOn-parts : (cards after : ℕ) (one other : List OutlineLine) → after ≡ cards + details_in one → FitOn cards (one ++ other)
      → FitOn cards one × FitOn after other
  FitOn-parts cards after [] other far fit = (tt, subst (λ n. FitOn n other) (omega (arith, far)) fit)
  FitOn-parts cards after (Detail opens card ∷ one) other far fit =
      FitOn-parts (cards + 1) after one other (omega (arith, far)) fit
  FitOn-parts cards after (Total level group ∷ one) other far fit =
      let more = FitOn-parts cards after one other far fit.1 in ((fit.0, more.0), more.1)

  FitOn-details : (cards opens : ℕ) (group : List (List ℕ)) → FitOn cards (details opens group)
  FitOn-details cards opens [] = tt
  FitOn-details cards opens (card ∷ group) = FitOn-details (cards + 1) 0 group

  -- the groups of a level fit that end after a number of cards that counts
  abbrev pub FitIn : (level cards : ℕ) → List (List (List ℕ)) → Type 0
  FitIn level cards [] = Unit {0}
  FitIn level cards (group ∷ groups) =
      (Counts (cards + length group) → GroupFits lines level group) × FitIn level (cards + length group) groups

  FitIn-join : (level cards after : ℕ) (one other : List (List (List ℕ))) → after ≡ cards + length (cards_of one)
      → FitIn level cards one → FitIn level after other → FitIn level cards (one ++ other)
  FitIn-join level cards after [] other far fit more = subst (λ n. FitIn level n other) (omega (arith, far)) more
  FitIn-join level cards after (group ∷ one) other far fit more =
      let long = length-append group (cards_of one) in
      (fit.0, FitIn-join level (cards + length group) after one other (omega (arith, far, long)) fit.1 more)

  FitIn-parts : (level cards after : ℕ) (one other : List (List (List ℕ))) → after ≡ cards + length (cards_of one)
      → FitIn level cards (one ++ other) → FitIn level cards one × FitIn level after other
  FitIn-parts level cards after [] other far fit = (tt, subst (λ n. FitIn level n other) (omega (arith, far)) fit)
  FitIn-parts level cards after (group ∷ one) other far fit =
      let long = length-append group (cards_of one) in
      let more = FitIn-parts level (cards + length group) after one other (omega (arith, far, long)) fit.1 in
      ((fit.0, more.0), more.1)

  -- the groups in a group fit, of the levels from 1 to its own
  abbrev pub FitWithin : (above cards : ℕ) → List (List ℕ) → Type 0
  FitWithin above cards group = (level : ℕ) → 1 ≤ level → level ≤ above → FitIn level cards (groups_in lines above level group)

  module _ (above : ℕ) where
    -- the cards of a part, as those of its outline and as those of its groups
    outlined : (cards opens : ℕ) (part : List (List ℕ)) → cards + length part ≡ cards + details_in (outline lines above opens part)
    outlined cards opens part = ap (λ n. cards + n) (sym (outline-cards lines above opens part))

    grouped : (cards level : ℕ) (part : List (List ℕ)) → cards + length part ≡ cards + length (cards_of (groups_in lines above level part))
    grouped cards level part = ap (λ group. cards + length group) (sym (cards_in lines above level part))

    -- the groups in the parts of a group fit where those of its outline do
    parts_fit :
        ((cards opens : ℕ) (group : List (List ℕ)) → FitOn cards (outline lines above opens group) → FitWithin above cards group)
        → (cards opens : ℕ) (parts : List (List (List ℕ))) → FitOn cards (by_parts (outline lines above) above opens parts)
        → (level : ℕ) → 1 ≤ level → level ≤ above → FitIn level cards (in_parts lines above level parts)
    parts_fit each cards opens [] fit level some few = tt
    parts_fit each cards opens (part ∷ parts) fit level some few =
        let both = FitOn-parts cards (cards + length part) (outline lines above opens part)
        (by_parts (outline lines above) above above parts) (outlined cards opens part) fit in
        FitIn-join level cards (cards + length part) (groups_in lines above level part) (in_parts lines above level parts)
        (grouped cards level part) (each cards opens part both.0 level some few)
        (parts_fit each (cards + length part) above parts both.1 level some few)

    -- and conversely
    fit_parts :
        ((cards opens : ℕ) (group : List (List ℕ)) → FitWithin above cards group → FitOn cards (outline lines above opens group))
        → (cards opens : ℕ) (parts : List (List (List ℕ)))
        → ((level : ℕ) → 1 ≤ level → level ≤ above → FitIn level cards (in_parts lines above level parts))
        → FitOn cards (by_parts (outline lines above) above opens parts)
    fit_parts each cards opens [] fit = tt
    fit_parts each cards opens (part ∷ parts) fit =
        let cut : (level : ℕ) → 1 ≤ level → level ≤ above
        → FitIn level cards (groups_in lines above level part) × FitIn level (cards + length part) (in_parts lines above level parts)
        = λ level some few. FitIn-parts level cards (cards + length part) (groups_in lines above level part)
        (in_parts lines above level parts) (grouped cards level part) (fit level some few) in
        FitOn-join cards (cards + length part) (outline lines above opens part) (by_parts (outline lines above) above above parts)
        (outlined cards opens part) (each cards opens part (λ level some few. (cut level some few).0))
        (fit_parts each (cards + length part) above parts (λ level some few. (cut level some few).1))

    -- the cards of a group, as those of the outline of its parts
    parted : (cards opens : ℕ) (group : List (List ℕ))
        → cards + length group ≡ cards + details_in (by_parts (outline lines above) above opens (groups_within lines above group))
    parted cards opens group =
        let all = outline-cards lines (suc above) opens group in
        let cut = details_in-append (by_parts (outline lines above) above opens (groups_within lines above group))
        (Total (suc above) group ∷ []) in
        omega (arith, all, cut)

  -- the groups in a group fit where the total lines of its outline do
  groups_fit : (above cards opens : ℕ) (group : List (List ℕ)) → FitOn cards (outline lines above opens group)
      → FitWithin above cards group
  groups_fit zero cards opens group fit level some few = absurd (omega (arith, some, few))
  groups_fit (suc above) cards opens group fit level some few =
      let parts = groups_within lines above group in
      let cut = FitOn-parts cards (cards + length group) (by_parts (outline lines above) above opens parts)
      (Total (suc above) group ∷ []) (parted above cards opens group) fit in
      elim (either lines above level group few) [
        | inl less ↦
            subst (FitIn level cards) (sym (lower lines above level group less))
            (parts_fit above (groups_fit above) cards opens parts cut.0 level some less)
        | inr same ↦
            subst (FitIn level cards) (sym (own lines above level group same))
            ((λ counts. subst (λ l. GroupFits lines l group) (sym same) (cut.1.0 counts)), tt)
      ]

  -- and conversely
  outline_fits : (above cards opens : ℕ) (group : List (List ℕ)) → FitWithin above cards group
      → FitOn cards (outline lines above opens group)
  outline_fits zero cards opens group fit = FitOn-details cards opens group
  outline_fits (suc above) cards opens group fit =
      let parts = groups_within lines above group in
      let here = subst (FitIn (suc above) cards) (own lines above (suc above) group refl) (fit (suc above) (omega arith) (omega arith)) in
      FitOn-join cards (cards + length group) (by_parts (outline lines above) above opens parts) (Total (suc above) group ∷ [])
      (parted above cards opens group)
      (fit_parts above (outline_fits above) cards opens parts
      (λ level some few. subst (FitIn level cards) (lower lines above level group few) (fit level some (omega (arith, few)))))
      (here.0, tt)

  -- a misfit is told of a card whose number doesn't count
  abbrev pub IsLate : Misfit → Type 0
  IsLate misfit = Counts misfit.card → ⊥

  -- where groups fit, each misfit is such a one
  fit_late : (cards : ℕ) (some : List OutlineLine) → FitOn cards some → All IsLate (misfits_after lines cards some)
  fit_late cards [] fit = All-nil IsLate
  fit_late cards (Detail opens card ∷ others) fit = fit_late (cards + 1) others fit
  fit_late cards (Total level group ∷ others) fit =
      All-append IsLate (misfits_in lines level cards group) (misfits_after lines cards others)
      (by (misfits_in lines level cards group) (misfits_numbered lines level cards group)
      (λ counts. no_misfit_in lines level cards group (fit.0 counts)))
      (fit_late cards others fit.1)
    where
      by : (here : List Misfit) → All (λ (misfit : Misfit). misfit.card ≡ cards) here → (Counts cards → here ≡ []) → All IsLate here
      by [] all none = All-nil IsLate
      by (misfit ∷ more) all none =
          λ k d less counts. let number = all k d less in absurd (some_none (none (subst Counts number counts)))
        where
          some_none : misfit ∷ more ≡ [] → ⊥
          some_none is = cc

  -- and conversely
  late_fit : (cards : ℕ) (some : List OutlineLine) → All IsLate (misfits_after lines cards some) → FitOn cards some
  late_fit cards [] late = tt
  late_fit cards (Detail opens card ∷ others) late = late_fit (cards + 1) others late
  late_fit cards (Total level group ∷ others) late =
      let both = All-parts IsLate (misfits_in lines level cards group) (misfits_after lines cards others) late in (
        λ counts. group_fits lines level cards group
            (by (misfits_in lines level cards group) (misfits_numbered lines level cards group) both.0 counts),
        late_fit cards others both.1,
      )
    where
      by : (here : List Misfit) → All (λ (misfit : Misfit). misfit.card ≡ cards) here → All IsLate here → Counts cards → here ≡ []
      by [] all none counts = refl
      by (misfit ∷ more) all none counts =
          absurd (All-head IsLate misfit more none
          (subst Counts (sym (All-head (λ (one : Misfit). one.card ≡ cards) misfit more all)) counts))

  -- so the groups of a group of level 4 fit where each misfit is such a one
  pub within_late : (group : List (List ℕ)) → FitWithin 4 0 group → All IsLate (misfits_after lines 0 (outline lines 4 4 group))
  within_late group fit = fit_late 0 (outline lines 4 4 group) (outline_fits 4 0 4 group fit)

  pub late_within : (group : List (List ℕ)) → All IsLate (misfits_after lines 0 (outline lines 4 4 group)) → FitWithin 4 0 group
  late_within group late = groups_fit 4 0 4 group (late_fit 0 (outline lines 4 4 group) late)
