-- What is told of a run that the deck stopped is the first of what a check lists.
use Rattle.std.proofs.Common.{◌≡◌, ◌≢◌, ◌∙◌, refl, sym, ap, subst, ℕ, true, List, [], ◌∷◌, ◌++◌, Option, Some, None, ◌⊎◌, inl, inr, All, length, take, slice_get, option_to_list, option_map, arith, append-nil, append_assoc, length-append}
use Rattle.std.proofs.Math.Seq.{take-append_seam}
use Rattle.std.proofs.lemmas.Bool.{false≢true}
use Rattle.std.proofs.lemmas.List.{nil_from_length}
use Rattle.std.proofs.lemmas.List.Elements.{All-head, All-tail, length_all_zip}
use Rattle.std.specs.List.{AllZip}
use Rattle.card_code.specs.Deck.{Deck, IsCardOf}
use Rattle.card_code.specs.Lines.{lines_of}
use Rattle.card_code.specs.declared.deck.DeckFault.{DeckFault}
use Rattle.card_code.specs.declared.deck.DeckFault.TheVariants as text
use Rattle.chart_rules.specs.ValidCard.{IsValidCard}
use Rattle.chart_rules.specs.declared.card.CardFault.{CardFault}
use Rattle.cli_decks.proofs.CheckCalls.BadLines as lines
use Rattle.cli_decks.proofs.CheckCalls.Fronts.{StopsAt, bad, has_front, misfit, silent, told_there}
use Rattle.cli_decks.proofs.CheckCalls.Pairings.{has_last}
use Rattle.cli_decks.specs.CheckCalls.Laws.{ChecksTellFirstWhatStopsRuns, stops_at_deck}
use Rattle.cli_commands.specs.CommandsWords.Streamed.{IsToldOf}
use Rattle.chart_lines.specs.ChartsWords.Chart.{Chart}
use Rattle.compile407.specs.Below.report_runs.Below.report_streams.CardLines.Faults.{HasFaultNext, IsLineAtFault}
use Rattle.compile407.specs.Below.report_runs.Below.report_streams.declared.card_lines.fault.ReadFault.TheVariants as read
use Rattle.compile407.specs.Below.report_runs.Causes.{HasCause, IsInvalidNext, IsUnreadNext}
use Rattle.compile407.specs.Below.report_runs.FirstCauses.{HaveFitSoFar, IsFirstCause}
use Rattle.compile407.specs.Below.report_runs.Reading.{HasRead}
use Rattle.compile407.specs.Below.report_runs.declared.fault.StreamCause.{StreamCause}
use Rattle.compile407.specs.Below.report_runs.declared.fault.StreamCause.TheVariants as cause
use Rattle.cli_decks.specs.CheckCalls.DeckChecks.BadLines.{IsGoodLine}
use Rattle.cli_decks.specs.CheckCalls.DeckChecks.Listings.{IsListing, misfit_told, totals_told}
use Rattle.report_definition.specs.FollowedDecks.FitSoFar.{FitSoFar}
use Rattle.fault_lines.specs.FaultsWords.ToldFaults.{deck_told, of_card, run_told}
use Rattle.fault_lines.specs.declared.faults.fault.Fault.{Fault}

-- lines of valid cards are good
good_lines : (chart : Chart) (lines cards : List (List ℕ)) → AllZip IsCardOf lines cards → All (IsValidCard chart) cards
    → AllZip (IsGoodLine chart) lines cards
good_lines chart [] [] each valid = tt
good_lines chart [] (card ∷ cards) each valid = absurd each
good_lines chart (line ∷ lines) [] each valid = absurd each
good_lines chart (line ∷ lines) (card ∷ cards) each valid = (
  record { punched = each.0; valid = All-head (IsValidCard chart) card cards valid },
  good_lines chart lines cards each.1 (All-tail (IsValidCard chart) card cards valid),
)

-- the next line is at fault, or there is one too many
next_at_fault : (given : ℕ) (rest : List ℕ) (fault : DeckFault) → HasFaultNext given rest (read.Deck fault)
    → IsLineAtFault given rest fault ⊎ ((given ≡ 999999) × (lines_of rest ≢ []))
next_at_fault given rest (text.CardTooLong line) is = inl is
next_at_fault given rest (text.NoSuchCharacter line column) is = inl is
next_at_fault given rest text.TooManyCards is = inr is
next_at_fault given rest text.Memory is = inl is

module _ (chart : Chart) (deck : List ℕ) (listed : List Fault) (listing : IsListing chart deck listed) where
  -- what a run tells of the line after those of the cards that were read is listed first
  first_there : (front cards rest : List (List ℕ)) (line : List ℕ) (told : Fault) → lines_of deck ≡ (front ++ line ∷ []) ++ rest
      → AllZip (IsGoodLine chart) front cards → HaveFitSoFar chart.lines cards → StopsAt chart cards line told
      → slice_get listed 0 ≡ Some told
  first_there front cards rest line told cut each fit stops =
      let count = length (front ++ line ∷ []) in
      let there = has_front count listing.lists in
      let same : take count (lines_of deck) ≡ front ++ line ∷ [] = ap (take count) cut ∙ take-append_seam (front ++ line ∷ []) rest in
      let one = told_there there.lists front cards line told same each fit stops in
      ap (λ l. slice_get l 0)
      (listing.all ∙ ap (λ t. t ++ totals_told chart listing.so_far None) (there.parts ∙ ap (λ t. t ++ there.later) one))

  module _ (cards : List (List ℕ)) (valid : All (IsValidCard chart) cards) where
    -- a deck of more than 999,999 lines has no listing
    too_many : (rest : List ℕ) → HasRead deck cards rest → length cards ≡ 999999 → lines_of rest ≢ [] → ⊥
    too_many rest is full some =
        some
        (nil_from_length (lines_of rest)
        (omega (arith, listing.few, ap length is.cut, length-append is.lines (lines_of rest), length_all_zip IsCardOf is.lines cards is.each, full)))

    -- at a line that is no card
    at_no_card : (fault : DeckFault) (told : Fault) → told ≡ deck_told fault → IsUnreadNext deck cards (read.Deck fault)
        → HaveFitSoFar chart.lines cards → slice_get listed 0 ≡ Some told
    at_no_card fault told named next fit = elim (next_at_fault (length cards) next.rest fault next.is_fault) [
      | inl found ↦
          first_there next.is_read.lines cards found.others found.line told
          (next.is_read.cut ∙ ap (λ l. next.is_read.lines ++ l) found.cut ∙ sym (append_assoc next.is_read.lines (found.line ∷ []) found.others))
          (good_lines chart next.is_read.lines cards next.is_read.each valid) fit (bad (lines.no_card fault found.is_fault named))
      | inr many ↦ absurd (too_many next.rest next.is_read (many.0) (many.1))
    ]

    -- at a card that is not valid
    at_invalid : (fault : CardFault) (number : ℕ) (told : Fault) → told ≡ run_told (of_card fault number)
        → IsInvalidNext chart deck cards fault number → HaveFitSoFar chart.lines cards → slice_get listed 0 ≡ Some told
    at_invalid fault number told named next fit =
        let last = has_last IsCardOf next.is_read.lines cards next.card next.is_read.each in
        first_there last.front cards (lines_of next.rest) last.last told
        (next.is_read.cut ∙ ap (λ l. l ++ lines_of next.rest) last.are)
        (good_lines chart last.front cards last.each valid) fit
        (bad (lines.invalid next.card fault last.one next.is_first (named ∙ ap (λ n. run_told (of_card fault n)) next.is_next)))

    -- at a total that does not fit, given the next card or the end of the deck
    at_misfit : (rest card : List ℕ) (others : List (List ℕ)) (next : Option (List ℕ)) (told : Fault) → HasRead deck cards rest
        → FitSoFar chart.lines card others → cards ≡ (card ∷ others) ++ option_to_list next → (next ≡ None → Deck deck (card ∷ others))
        → totals_told chart (Some (card ∷ others)) next ≡ told ∷ [] → slice_get listed 0 ≡ Some told
    at_misfit rest card others None told is fit are ended tells =
        let all_valid = subst (All (IsValidCard chart)) (are ∙ append-nil (card ∷ others)) valid in
        let known = silent listing.lists (card ∷ others) (good_lines chart (lines_of deck) (card ∷ others) (ended refl).each all_valid) fit in
        ap (λ l. slice_get l 0)
        (listing.all ∙ ap (λ t. t ++ totals_told chart listing.so_far None) (known.1) ∙ ap (λ s. totals_told chart s None) (known.0) ∙ tells)
    at_misfit rest card others (Some next) told is fit are ended tells =
        let good = good_lines chart is.lines cards is.each valid in
        let last = has_last (IsGoodLine chart) is.lines (card ∷ others) next (subst (AllZip (IsGoodLine chart) is.lines) are good) in
        first_there last.front (card ∷ others) (lines_of rest) last.last told (is.cut ∙ ap (λ l. l ++ lines_of rest) last.are) last.each fit
        (misfit next last.one tells)

pub checks_tell_first_what_stops_runs : ChecksTellFirstWhatStopsRuns
checks_tell_first_what_stops_runs chart deck left met written told listed stopped at_deck named listing =
    by met stopped.has_cause stopped.is_first at_deck named
  where
    cards : List (List ℕ)
    cards = stopped.cards

    by : (stops : StreamCause) → HasCause chart deck cards stops → IsFirstCause chart deck cards stops → stops_at_deck stops ≡ true
        → IsToldOf stops told → slice_get listed 0 ≡ Some told
    by (cause.Card (read.Deck fault)) has fit at named = at_no_card chart deck listed listing cards stopped.valid.valid fault told named has fit
    by (cause.Card (read.Read line)) has fit at named = absurd (false≢true at)
    by (cause.Card read.Failed) has fit at named = absurd (false≢true at)
    by (cause.Invalid fault number) has fit at named =
        at_invalid chart deck listed listing cards stopped.valid.valid fault number told named has fit
    by (cause.Misfit found) has first at named =
        at_misfit chart deck listed listing cards stopped.valid.valid (stopped.is_read.beyond ++ stopped.is_read.rest) first.card first.others
        first.next told stopped.is_read.is_read first.fit first.are first.ended
        (ap (λ f. option_to_list (option_map misfit_told f)) first.is_first ∙ ap (λ f. f ∷ []) (sym named))
    by cause.Write has first at named = absurd (false≢true at)
    by cause.Memory has first at named = absurd (false≢true at)
