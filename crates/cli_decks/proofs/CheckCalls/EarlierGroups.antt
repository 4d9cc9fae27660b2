-- Where no group that ended before the last of some cards has a misfit, none of those that ended before an earlier card has one.
use Rattle.std.proofs.Common.{◌≡◌, ◌∙◌, refl, sym, ap, ℕ, ◌+◌, List, [], ◌∷◌, ◌++◌, Some, length, arith, append-nil, append_assoc, length-append}
use Rattle.chart_lines.specs.declared.charts.chart.Line.{Line}
use Rattle.report_definition.specs.Breaks.{cleared, ended_after, taking}
use Rattle.report_definition.specs.Misfits.{Misfit, misfits}
use Rattle.report_definition.proofs.FollowedDecks.FitSoFar.{groups-more, last-more}
use Rattle.report_definition.proofs.FollowedDecks.Misfits.{misfits_of_cards}
use Rattle.report_definition.specs.FollowedDecks.CardMisfits.{misfits_from, misfits_to}
use Rattle.report_definition.specs.FollowedDecks.FitSoFar.{FitSoFar, groups_before, misfits_of_last}
use Rattle.report_definition.specs.FollowedDecks.Stands.{Stand, at_first, last_of, stand_after, stand_before}

-- where two lists before a list leave it as it is, they are empty
none_before : {X : Type 0} (one other rest : List X) → one ++ (other ++ rest) ≡ rest → (one ≡ []) × (other ≡ [])
none_before [] [] rest is = (refl, refl)
none_before [] (x ∷ other) rest is = absurd (omega (arith, ap length is, length-append other rest))
none_before (x ∷ one) other rest is = absurd (omega (arith, ap length is, length-append one (other ++ rest), length-append other rest))

-- The misfits of a card and the cards after it, whatever cards come later, are some of the groups that end before the last of them, and those from
-- it on.
record InParts (lines : List Line) (number : ℕ) (stand : Stand) (card : List ℕ) (cards : List (List ℕ)) : Type 0 where
  earlier : List Misfit
  parts : (later : List (List ℕ)) → misfits_from lines number stand.so_far card (cards ++ later)
      ≡ earlier ++ misfits_from lines (length cards + number) (stand_before lines stand card cards).so_far (last_of card cards) later

in_parts : (lines : List Line) (number : ℕ) (stand : Stand) (card : List ℕ) (cards : List (List ℕ)) → InParts lines number stand card cards
in_parts lines number stand card [] = record {
  earlier = [];
  parts = λ later. let same : number ≡ 0 + number = omega arith in ap (λ n. misfits_from lines n stand.so_far card later) same;
}
in_parts lines number stand card (next ∷ cards) =
    let of_card = misfits_to lines number (ended_after lines card (Some next)) (taking card stand.so_far) in
    let others = in_parts lines (number + 1) (stand_after lines stand card (Some next)) next cards in
    let same : length cards + (number + 1) ≡ length (next ∷ cards) + number = omega arith in
    record {
      earlier = of_card ++ others.earlier;
      parts = λ later.
          ap (λ l. of_card ++ l) (others.parts later)
          ∙ ap (λ n. of_card ++ (others.earlier
          ++ misfits_from lines n (stand_before lines stand card (next ∷ cards)).so_far (last_of next cards) later)) same
          ∙ sym (append_assoc of_card others.earlier _);
    }

-- No group that ended before the last of some cards has a misfit, so none of those that ended before the card before it has one, and none of those
-- that ended with that card.
pub fits_go_back : (lines : List Line) (card : List ℕ) (cards : List (List ℕ)) (next : List ℕ) → FitSoFar lines card (cards ++ next ∷ [])
    → FitSoFar lines card cards × (misfits_of_last lines card cards (Some next) ≡ [])
fits_go_back lines card cards next fit = (
  λ later.
      misfits_of_cards lines (card ∷ (cards ++ later)) ∙ split.parts later
      ∙ ap (λ l. l ++ misfits_from lines (length cards + 1) (groups_before lines card cards) (last_of card cards) later) (none.0),
  none.1,
)
  where
    split : InParts lines 1 at_first card cards
    split = in_parts lines 1 at_first card cards

    -- the misfits from the next card on
    rest : List Misfit
    rest =
        misfits_from lines (length cards + 1 + 1)
        (cleared (ended_after lines (last_of card cards) (Some next)) (taking (last_of card cards) (groups_before lines card cards))) next []

    long : length (cards ++ next ∷ []) + 1 ≡ length cards + 1 + 1
    long = omega (arith, length-append cards (next ∷ []))

    whole : misfits lines (card ∷ (cards ++ next ∷ [])) ≡ rest
    whole =
        ap (λ l. misfits lines (card ∷ l)) (sym (append-nil (cards ++ next ∷ [])))
        ∙ fit []
        ∙ ap (λ n. misfits_from lines n (groups_before lines card (cards ++ next ∷ [])) (last_of card (cards ++ next ∷ [])) []) long
        ∙ ap (λ last. misfits_from lines (length cards + 1 + 1) (groups_before lines card (cards ++ next ∷ [])) last []) (last-more card cards next)
        ∙ ap (λ groups. misfits_from lines (length cards + 1 + 1) groups next []) (groups-more lines card cards next)

    none : (split.earlier ≡ []) × (misfits_of_last lines card cards (Some next) ≡ [])
    none =
        none_before split.earlier (misfits_of_last lines card cards (Some next)) rest
        (sym (misfits_of_cards lines (card ∷ (cards ++ next ∷ [])) ∙ split.parts (next ∷ [])) ∙ whole)
