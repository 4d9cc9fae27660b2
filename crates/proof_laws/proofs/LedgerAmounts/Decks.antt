-- A deck card by card, as the report comes to each card, with the lines of the report's outline before it.
use Rattle.std.proofs.Common.{◌≡◌, ◌∙◌, refl, sym, ap, ℕ, zero, suc, ◌+◌, ◌≤◌, nat_le, Bool, true, false, List, [], ◌∷◌, ◌++◌, Option, Some, None, length, append-nil, append_assoc, arith}
use Rattle.std.specs.List.{All}
use Rattle.std.proofs.lemmas.Bool.Decides.{nat_tests}
use Rattle.std.proofs.lemmas.List.{length-append}
use Rattle.std.proofs.lemmas.List.Elements.{All-head, All-tail}
use Rattle.chart_rules.specs.ValidCard.{IsValidCard}
use Rattle.chart_lines.specs.ChartsWords.Chart.{Chart}
use Rattle.chart_lines.specs.declared.charts.chart.Line.{Line}
use Rattle.report_definition.proofs.FollowedDecks.Alike.{alike-after, alike-first}
use Rattle.report_definition.proofs.FollowedDecks.FirstMisfits.{fit_before_first}
use Rattle.report_definition.specs.FollowedDecks.Alike.{AlikeWith}
use Rattle.report_definition.specs.FollowedDecks.CardMisfits.{FitFrom}
use Rattle.report_definition.specs.FollowedDecks.Stands.{Stand, at_first, stand_after}
use Rattle.proof_reports.specs.PrintedReports.Goes.{IsDue}
use Rattle.report_definition.proofs.Fitting.{fit_without_misfits}
use Rattle.report_definition.proofs.OutlineByCards.{deck_by_cards}
use Rattle.report_definition.specs.Breaks.{chunk_of, cleared, ended_after, flat, taking, totals_to}
use Rattle.report_definition.specs.Misfits.{Misfit, first_of, misfits}
use Rattle.report_definition.specs.Outline.{Detail, OutlineLine, Total, outline_of}
use Rattle.report_definition.specs.Totals.{Fits}
use Rattle.proof_laws.proofs.LedgerAmounts.Told.{Follows, first, next}
use Rattle.proof_laws.specs.LedgerAmounts.Amounts.{StandsBehind, cards_in}

-- the card after a card, if there is one, and the cards after that
abbrev pub next_of : List (List ℕ) → Option (List ℕ)
next_of [] = None
next_of (card ∷ cards) = Some card

abbrev pub rest_of : List (List ℕ) → List (List ℕ)
rest_of [] = []
rest_of (card ∷ cards) = cards

-- The report comes to a card of a deck: some cards were seen before it, and others follow.
pub record AtCard (chart : Chart) (deck : List (List ℕ)) (stand : Stand) (card : List ℕ) (cards seen : List (List ℕ)) : Type 0 where
  pub whole : deck ≡ seen ++ (card ∷ cards)
  pub earlier : List OutlineLine
  pub outline : outline_of chart.lines deck ≡ earlier ++ flat chart.lines stand.so_far stand.opens card cards
  pub counted : cards_in earlier ≡ length seen
  pub follows : Follows chart.lines card stand.so_far
  pub alike : AlikeWith chart.lines stand.so_far card
  pub fit : FitFrom chart.lines stand.so_far card cards (suc (length cards))
  pub valid : All (IsValidCard chart) (card ∷ cards)

-- cards of parts of an outline
cards_in-append : (one other : List OutlineLine) → cards_in (one ++ other) ≡ cards_in one + cards_in other
cards_in-append [] other = omega arith
cards_in-append (Detail opens card ∷ one) other = let more = cards_in-append one other in omega (arith, more)
cards_in-append (Total level group ∷ one) other = cards_in-append one other

totals-none : (level : ℕ) (groups : ℕ → List (List ℕ)) → cards_in (totals_to level groups) ≡ 0
totals-none zero groups = refl
totals-none (suc level) groups =
    let more = totals-none level groups in
    let both = cards_in-append (totals_to level groups) (Total (suc level) (groups (suc level)) ∷ []) in
    omega (arith, more, both)

-- the total line of a level among those up to a higher one
totals-at : (ended k : ℕ) (groups : ℕ → List (List ℕ)) → suc k ≤ ended
    → (later : List OutlineLine) × (totals_to ended groups ≡ totals_to k groups ++ (Total (suc k) (groups (suc k)) ∷ later))
totals-at zero k groups within = absurd (omega (arith, within))
totals-at (suc ended) k groups within = by (λ low. totals-at ended k groups low) (nat_le (suc k) ended) refl
  where
    by :
        (suc k ≤ ended
        → (later : List OutlineLine) × (totals_to ended groups ≡ totals_to k groups ++ (Total (suc k) (groups (suc k)) ∷ later)))
        → (b : Bool) → nat_le (suc k) ended ≡ b
        → (later : List OutlineLine)
        × (totals_to (suc ended) groups ≡ totals_to k groups ++ (Total (suc k) (groups (suc k)) ∷ later))
    by each true low =
        let (later, same) = each (grind (arith, nat_tests, low)) in (
          later ++ (Total (suc ended) (groups (suc ended)) ∷ []),
          ap (λ l. l ++ (Total (suc ended) (groups (suc ended)) ∷ [])) same
              ∙ append_assoc (totals_to k groups) (Total (suc k) (groups (suc k)) ∷ later) (Total (suc ended) (groups (suc ended)) ∷ []),
        )
    by each false high =
        let same : ended ≡ k = grind (arith, nat_tests, high, within) in
        ([], ap (λ n. totals_to n groups ++ (Total (suc n) (groups (suc n)) ∷ [])) same)

-- the lines of a card, and those after it
flat-parts : (lines : List Line) (so_far : ℕ → List (List ℕ)) (opens : ℕ) (card : List ℕ) (cards : List (List ℕ))
    → (after : List OutlineLine)
    × (flat lines so_far opens card cards ≡ chunk_of opens so_far card (ended_after lines card (next_of cards)) ++ after)
flat-parts lines so_far opens card [] = ([], sym (append-nil (chunk_of opens so_far card (ended_after lines card None))))
flat-parts lines so_far opens card (other ∷ cards) =
    let ended = ended_after lines card (Some other) in
    (flat lines (cleared ended (taking card so_far)) ended other cards, refl)

no-first : (all : List Misfit) (misfit : Misfit) → all ≡ [] → first_of all ≡ Some misfit → ⊥
no-first [] misfit none some = cc
no-first (one ∷ more) misfit none some = cc

-- the first card
pub at-first : (chart : Chart) (card : List ℕ) (cards : List (List ℕ)) → All (IsValidCard chart) (card ∷ cards)
    → Fits chart.lines (card ∷ cards) → AtCard chart (card ∷ cards) at_first card cards []
at-first chart card cards valid fits = record {
  whole = refl;
  earlier = [];
  outline = deck_by_cards chart.lines (card ∷ cards);
  counted = refl;
  follows = first;
  alike = alike-first chart.lines card;
  fit = (fit_before_first chart.lines (card ∷ cards) (suc (length cards))).1
      (λ misfit some. absurd (no-first (misfits chart.lines (card ∷ cards)) misfit
      ((fit_without_misfits chart.lines (card ∷ cards)).0 fits) some));
  valid = valid;
}

-- the next one
pub at-next : (chart : Chart) (deck : List (List ℕ)) (stand : Stand) (card other : List ℕ) (cards seen : List (List ℕ))
    → AtCard chart deck stand card (other ∷ cards) seen
    → AtCard chart deck (stand_after chart.lines stand card (Some other)) other cards (seen ++ (card ∷ []))
at-next chart deck stand card other cards seen at =
    let lines = chart.lines in
    let ended = ended_after lines card (Some other) in
    let chunk = chunk_of stand.opens stand.so_far card ended in
    let many : cards_in chunk ≡ 0 + 1 = ap (λ n. n + 1) (totals-none ended (taking card stand.so_far)) in
    let both = cards_in-append at.earlier chunk in
    let long = length-append seen (card ∷ []) in
    let counted = at.counted in
    record {
      whole = at.whole ∙ sym (append_assoc seen (card ∷ []) (other ∷ cards));
      earlier = at.earlier ++ chunk;
      outline = at.outline ∙ sym (append_assoc at.earlier chunk (flat lines (cleared ended (taking card stand.so_far)) ended other cards));
      counted = omega (arith, many, both, long, counted);
      follows = next card stand.so_far;
      alike = alike-after lines stand card other at.alike;
      fit = at.fit.1;
      valid = All-tail (IsValidCard chart) card (other ∷ cards) at.valid;
    }

-- what is given of a card when it runs
pub card-due : (chart : Chart) (deck : List (List ℕ)) (stand : Stand) (card : List ℕ) (cards seen : List (List ℕ))
    → AtCard chart deck stand card cards seen → IsDue chart (IsValidCard chart) stand card (next_of cards)
card-due chart deck stand card [] seen at = record {
  reads = All-head (IsValidCard chart) card [] at.valid;
  reads_next = tt;
  alike = at.alike;
  fit = at.fit;
}
card-due chart deck stand card (other ∷ cards) seen at = record {
  reads = All-head (IsValidCard chart) card (other ∷ cards) at.valid;
  reads_next = All-head (IsValidCard chart) other cards (All-tail (IsValidCard chart) card (other ∷ cards) at.valid);
  alike = at.alike;
  fit = at.fit.0;
}

-- The total line of a group that ends with a card.
pub stands-behind : (chart : Chart) (deck : List (List ℕ)) (stand : Stand) (card : List ℕ) (cards seen : List (List ℕ)) (k : ℕ)
    (front : List (List ℕ)) → AtCard chart deck stand card cards seen → suc k ≤ ended_after chart.lines card (next_of cards)
    → seen ++ (card ∷ []) ≡ front ++ taking card stand.so_far (suc k)
    → StandsBehind chart.lines deck (suc k) (length seen + 1) (length front) (taking card stand.so_far (suc k))
stands-behind chart deck stand card cards seen k front at within is =
    let lines = chart.lines in
    let groups = taking card stand.so_far in
    let ended = ended_after lines card (next_of cards) in
    let (after, parts) = flat-parts lines stand.so_far stand.opens card cards in
    let (later, totals) = totals-at ended k groups within in
    let total : OutlineLine = Total (suc k) (groups (suc k)) in
    let head : OutlineLine = Detail stand.opens card in
    let split : flat lines stand.so_far stand.opens card cards ≡ (head ∷ totals_to k groups) ++ (total ∷ (later ++ after))
    = parts ∙ ap (λ l. (head ∷ l) ++ after) totals
    ∙ append_assoc (head ∷ totals_to k groups) (total ∷ later) after in
    let many = totals-none k groups in
    let both = cards_in-append at.earlier (head ∷ totals_to k groups) in
    let counted = at.counted in
    let long = length-append seen (card ∷ []) in
    let length_is = ap length is ∙ length-append front (groups (suc k)) in
    record {
      earlier = at.earlier ++ (head ∷ totals_to k groups);
      later = later ++ after;
      outline = at.outline ∙ ap (λ l. at.earlier ++ l) split
          ∙ sym (append_assoc at.earlier (head ∷ totals_to k groups) (total ∷ (later ++ after)));
      counted = omega (arith, many, both, counted);
      front = front;
      rest = cards;
      cards = at.whole ∙ sym (append_assoc seen (card ∷ []) cards) ∙ ap (λ l. l ++ cards) is;
      many = refl;
      all = omega (arith, long, length_is);
    }
