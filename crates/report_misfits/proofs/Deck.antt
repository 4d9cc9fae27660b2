-- The first misfit of a deck, card by card.
use Rattle.std.proofs.Common.{◌≡◌, ◌∙◌, refl, sym, ap, ℕ, zero, suc, ◌+◌, ◌<◌, List, [], ◌∷◌, ◌++◌, Option, Some, None, length, drop, get_or, slice_get, append-nil}
use Rattle.chart_lines.specs.declared.charts.chart.Line.{Line}
use Rattle.report_definition.specs.FollowedDecks.CardMisfits.{misfits_by_cards, misfits_from, misfits_to}
use Rattle.report_definition.specs.Breaks.{cleared, ended_after, no_cards, taking}
use Rattle.report_definition.specs.Misfits.{Misfit, first_of, misfits}
use Rattle.report_definition.proofs.FollowedDecks.Misfits.{misfits_of_cards}
use Rattle.report_misfits.specs.OpenSums.{AreSumsOf, Sums}
use Rattle.report_misfits.proofs.InPlace.{first-append, no_first, rest}

-- the misfits of the cards that are left, where so many have gone
abbrev pub left_misfits : List Line → ℕ → (ℕ → List (List ℕ)) → List (List ℕ) → List Misfit
left_misfits lines gone so_far [] = []
left_misfits lines gone so_far (card ∷ cards) = misfits_from lines (gone + 1) so_far card cards

-- What the pass over a deck keeps: the sums are those of some unfinished groups, after so many cards, and the first misfit is that of the
-- cards that are left.
pub record Kept (lines : List Line) (cards : List (List ℕ)) (place : ℕ) (sums : Sums) : Type 0 where
  pub so_far : ℕ → List (List ℕ)
  pub are : AreSumsOf lines so_far sums
  pub counted : sums.cards ≡ place
  pub first : first_of (misfits lines cards) ≡ first_of (left_misfits lines place so_far (drop place cards))

-- the first card, if there is one
abbrev head : {X : Type 0} → List X → Option X
head [] = None
head (x ∷ xs) = Some x

head-drop : {X : Type 0} (xs : List X) (i : ℕ) → slice_get xs i ≡ head (drop i xs)
head-drop [] zero = refl
head-drop [] (suc i) = refl
head-drop (x ∷ xs) zero = refl
head-drop (x ∷ xs) (suc i) = head-drop xs i

-- the misfits of a card, and those of the cards that are left then
one_card : (lines : List Line) (cards : List (List ℕ)) (place : ℕ) (so_far : ℕ → List (List ℕ)) (card : List ℕ) → place < length cards
    → card ≡ get_or cards place card
    → let ended = ended_after lines card (slice_get cards (place + 1)) in
    left_misfits lines place so_far (drop place cards)
    ≡ misfits_to lines (place + 1) ended (taking card so_far)
    ++ left_misfits lines (place + 1) (cleared ended (taking card so_far)) (drop (place + 1) cards)
one_card lines cards place so_far card within at =
    ap (left_misfits lines place so_far) (rest cards place card within at)
    ∙ by (drop (place + 1) cards) (slice_get cards (place + 1)) (head-drop cards (place + 1))
  where
    by : (others : List (List ℕ)) (next : Option (List ℕ)) → next ≡ head others
        → misfits_from lines (place + 1) so_far card others
        ≡ misfits_to lines (place + 1) (ended_after lines card next) (taking card so_far)
        ++ left_misfits lines (place + 1) (cleared (ended_after lines card next) (taking card so_far)) others
    by [] next is =
        ap (λ o. misfits_to lines (place + 1) (ended_after lines card o) (taking card so_far)) (sym is)
        ∙ sym (append-nil (misfits_to lines (place + 1) (ended_after lines card next) (taking card so_far)))
    by (one ∷ others) next is =
        ap (λ o. misfits_to lines (place + 1) (ended_after lines card o) (taking card so_far)
        ++ left_misfits lines (place + 1) (cleared (ended_after lines card o) (taking card so_far)) (one ∷ others))
        (sym is)

-- before the first card
pub kept_first : (lines : List Line) (cards : List (List ℕ)) (sums : Sums) → AreSumsOf lines no_cards sums → sums.cards ≡ 0 → Kept lines cards 0 sums
kept_first lines cards sums are none = record {
  so_far = no_cards;
  are = are;
  counted = none;
  first = ap first_of (misfits_of_cards lines cards ∙ by cards);
}
  where
    by : (some : List (List ℕ)) → misfits_by_cards lines some ≡ left_misfits lines 0 no_cards (drop 0 some)
    by [] = refl
    by (card ∷ others) = refl

-- the misfits that are left, of a card and the next
module _ (lines : List Line) (cards : List (List ℕ)) (place : ℕ) (card : List ℕ) (next : Option (List ℕ)) (old : Sums)
    (kept : Kept lines cards place old) (within : place < length cards) (at : card ≡ get_or cards place card)
    (is_next : next ≡ slice_get cards (place + 1)) where
  abbrev after : ℕ → List (List ℕ)
  after = cleared (ended_after lines card next) (taking card kept.so_far)

  -- those of the card
  abbrev here : ℕ → List Misfit
  here number = misfits_to lines number (ended_after lines card next) (taking card kept.so_far)

  all : first_of (misfits lines cards)
      ≡ first_of (here (old.cards + 1) ++ left_misfits lines (place + 1) after (drop (place + 1) cards))
  all =
      kept.first
      ∙ ap first_of (one_card lines cards place kept.so_far card within at)
      ∙ ap
      (λ o. first_of (misfits_to lines (place + 1) (ended_after lines card o) (taking card kept.so_far)
      ++ left_misfits lines (place + 1) (cleared (ended_after lines card o) (taking card kept.so_far)) (drop (place + 1) cards)))
      (sym is_next)
      ∙ ap (λ n. first_of (here (n + 1) ++ left_misfits lines (place + 1) after (drop (place + 1) cards))) (sym kept.counted)

  -- a misfit of the card is the first of the deck
  pub told_first_of_deck : (misfit : Misfit) → Some misfit ≡ first_of (here (old.cards + 1)) → Some misfit ≡ first_of (misfits lines cards)
  told_first_of_deck misfit tells =
      sym (all ∙ first-append (here (old.cards + 1)) (left_misfits lines (place + 1) after (drop (place + 1) cards)) misfit (sym tells))

  -- without one the pass goes on
  pub kept_more : (new : Sums) → None ≡ first_of (here (old.cards + 1)) → AreSumsOf lines after new → new.cards ≡ old.cards + 1
      → Kept lines cards (place + 1) new
  kept_more new none are more = record {
    so_far = after;
    are = are;
    counted = more ∙ ap (λ n. n + 1) kept.counted;
    first = all
        ∙ ap (λ l. first_of (l ++ left_misfits lines (place + 1) after (drop (place + 1) cards)))
        (no_first (here (old.cards + 1)) (sym none));
  }
