-- What was shown of a deck, line by line.
use Rattle.std.proofs.Common.{◌≡◌, ◌≢◌, ◌∙◌, refl, sym, ap, subst, ℕ, ◌+◌, ◌≤◌, true, false, List, [], ◌∷◌, ◌++◌, Option, Some, None, Result, Ok, Err, OnOk, is_some, length, slice_get, arith, append_assoc, append-nil, length-append, option_to_list, option_map}
use Rattle.std.proofs.Math.Seq.{get_or-append_seam}
use Rattle.std.proofs.lemmas.Bool.{false≢true}
use Rattle.std.proofs.lemmas.Grind.{flat_map-append}
use Rattle.std.specs.List.{flat_map}
use Rattle.std.specs.Prelude.{slice_index_or}
use Rattle.card_code.specs.Deck.{line_at}
use Rattle.card_code.specs.Lines.{lines_of}
use Rattle.card_code.specs.MostCards.{most_cards}
use Rattle.card_code.specs.declared.deck.DeckFault.TheVariants as text_fault
use Rattle.chart_lines.specs.ChartsWords.Chart.{Chart}
use Rattle.cli_decks.proofs.CheckCalls.DeckChecks.Steps.{edges_of, first_more}
use Rattle.cli_decks.proofs.CheckCalls.DeckChecks.Whole.{fine_written}
use Rattle.cli_decks.specs.CheckCalls.DeckChecks.BadLines.{IsBadLine, no_card, not_amount, not_text}
use Rattle.cli_decks.specs.CheckCalls.DeckChecks.Fine.{fine_words}
use Rattle.cli_decks.specs.CheckCalls.DeckChecks.HelperShown.{Gains, HasShown, TakesShown}
use Rattle.cli_decks.specs.CheckCalls.DeckChecks.HelperStanding.{HasEnded, IsAt, Takes, bad, good}
use Rattle.cli_decks.specs.CheckCalls.DeckChecks.HelperTold.{first_with}
use Rattle.cli_decks.specs.CheckCalls.DeckChecks.Listings as listings
use Rattle.cli_decks.specs.CheckCalls.DeckChecks.Listings.{IsListing, Lists, lines_told, misfit_told, totals_told, with_card}
use Rattle.cli_decks.specs.CheckCalls.DeckChecks.Shown.{IsShown, IsTooLong, card_named, entries_told, entry_in, entry_told}
use Rattle.cli_decks.specs.declared.check_calls.deck_checks.shown.Shown.{Shown}
use Rattle.cli_decks.specs.declared.check_calls.deck_checks.standing.Standing.{Standing}
use Rattle.report_definition.specs.FollowedDecks.FitSoFar.{misfits_of_last}
use Rattle.fault_lines.specs.declared.faults.fault.Fault.{Fault}
use Rattle.report_definition.specs.Misfits.{Misfit, first_of}

-- a line of a deck has its place
line_there : (deck line : List ℕ) (lines after : List (List ℕ)) → lines_of deck ≡ lines ++ line ∷ after → line_at deck (length lines + 1) ≡ line
line_there deck line lines after cut =
    ap (λ n. slice_index_or (lines_of deck) n []) (omega arith)
    ∙ ap (λ (all : List (List ℕ)). slice_index_or all (length lines) []) cut
    ∙ get_or-append_seam lines line after []

module _ (chart : Chart) (deck line : List ℕ) where
  -- of totals no card is shown
  total_entries : (found : Option Misfit)
      → flat_map (entry_told chart line) (option_to_list (option_map misfit_told found)) ≡ entries_told chart deck (option_to_list (option_map misfit_told found))
  total_entries None = refl
  total_entries (Some misfit) = refl

  pub totals_entries : (so_far : Option (List (List ℕ))) (next : Option (List ℕ))
      → flat_map (entry_told chart line) (totals_told chart so_far next) ≡ entries_told chart deck (totals_told chart so_far next)
  totals_entries None next = refl
  totals_entries (Some []) next = refl
  totals_entries (Some (card ∷ cards)) next = total_entries (first_of (misfits_of_last chart.lines card cards next))

  module _ (number : ℕ) where
    -- a bad line is named by its number
    bad_named : (told : Fault) → IsBadLine chart number line told → card_named told ≡ number
    bad_named told (no_card (text_fault.CardTooLong n) has named) = ap card_named named ∙ has.0
    bad_named told (no_card (text_fault.NoSuchCharacter n column) has named) = ap card_named named ∙ has.0
    bad_named told (no_card text_fault.TooManyCards has named) = absurd has
    bad_named told (no_card text_fault.Memory has named) = absurd has
    bad_named told (not_text card column punched first named) = ap card_named named
    bad_named told (not_amount card column punched first named) = ap card_named named

    -- what is told of a line is what is told of the deck
    taken_entries : (so_far : Option (List (List ℕ))) (more : List Fault) (now : Standing) → line_at deck number ≡ line
        → Takes chart number line so_far more now → flat_map (entry_told chart line) more ≡ entries_told chart deck more
    taken_entries so_far more now there (good card has named at) =
        ap (flat_map (entry_told chart line)) named ∙ totals_entries so_far (Some card) ∙ sym (ap (entries_told chart deck) named)
    taken_entries so_far more now there (bad told has named at) =
        ap (flat_map (entry_told chart line)) named
        ∙ ap (λ (l : List ℕ). flat_map (entry_told chart l) (told ∷ []))
        (sym there ∙ ap (line_at deck) (sym (bad_named told has)))
        ∙ sym (ap (entries_told chart deck) named)

-- what a line more makes of what was told
record IsMore (chart : Chart) (lines : List (List ℕ)) (line : List ℕ) (told more : List Fault) (now : Standing) : Type 0 where
  so_far : Option (List (List ℕ))
  lists : Lists chart (lines ++ line ∷ []) so_far (told ++ more)
  at : IsAt chart.lines so_far now

more_of : (chart : Chart) (lines : List (List ℕ)) (so_far : Option (List (List ℕ))) (told : List Fault) (line : List ℕ) (more : List Fault)
    (now : Standing) → Lists chart lines so_far told → Takes chart (length lines + 1) line so_far more now → IsMore chart lines line told more now
more_of chart lines so_far told line more now before (good card has named at) = record {
  so_far = with_card card so_far;
  lists = subst (λ (m : List Fault). Lists chart (lines ++ line ∷ []) (with_card card so_far) (told ++ m)) (sym named)
      (listings.good lines so_far told line card before has);
  at = at;
}
more_of chart lines so_far told line more now before (bad fault has named at) = record {
  so_far = None;
  lists = subst (λ (m : List Fault). Lists chart (lines ++ line ∷ []) None (told ++ m)) (sym named)
      (listings.bad lines so_far told line fault before has);
  at = at;
}

-- nothing is shown yet
pub shown_none : (chart : Chart) (deck : List ℕ) (standing : Standing) (shown : Shown) → IsAt chart.lines (Some []) standing → standing.count ≡ 0
    → shown.first ≡ None → shown.text.items ≡ [] → HasShown chart deck deck standing shown
shown_none chart deck standing shown at none first text = record {
  lines = [];
  so_far = Some [];
  told = [];
  lists = listings.none;
  at = at;
  counted = none;
  few = omega arith;
  cut = refl;
  is_first = first;
  text = text;
}

-- of one line more
pub shown_more : (chart : Chart) (deck rest after line : List ℕ) (standing now : Standing) (shown new : Shown)
    → HasShown chart deck rest standing shown → lines_of rest ≡ line ∷ lines_of after → standing.count ≢ most_cards
    → ((so_far : Option (List (List ℕ))) → IsAt chart.lines so_far standing → TakesShown chart (standing.count + 1) line so_far now shown new)
    → now.count ≡ standing.count + 1 → HasShown chart deck after now new
shown_more chart deck rest after line standing now shown new before next other takes counted = record {
  lines = before.lines ++ line ∷ [];
  so_far = more.so_far;
  told = before.told ++ option_to_list taken.told;
  lists = more.lists;
  at = more.at;
  counted = omega (arith, counted, before.counted, length-append before.lines (line ∷ []));
  few = omega (arith, before.counted, before.few, other, length-append before.lines (line ∷ []));
  cut = cut ∙ sym (append_assoc before.lines (line ∷ []) (lines_of after));
  is_first = taken.gains.first ∙ first_more before.told taken.told shown.first before.is_first;
  text = taken.gains.text
      ∙ ap (λ (front : List ℕ). front ++ flat_map (entry_told chart line) (option_to_list taken.told)) before.text
      ∙ ap (λ (behind : List ℕ). entries_told chart deck before.told ++ behind)
      (taken_entries chart deck line (length before.lines + 1) before.so_far (option_to_list taken.told) now
      (line_there deck line before.lines (lines_of after) cut) as_numbered)
      ∙ sym (flat_map-append (entry_in chart deck) before.told (option_to_list taken.told));
}
  where
    taken : TakesShown chart (standing.count + 1) line before.so_far now shown new
    taken = takes before.so_far before.at

    as_numbered : Takes chart (length before.lines + 1) line before.so_far (option_to_list taken.told) now
    as_numbered = subst (λ (n : ℕ). Takes chart (n + 1) line before.so_far (option_to_list taken.told) now) before.counted taken.takes

    more : IsMore chart before.lines line before.told (option_to_list taken.told) now
    more = more_of chart before.lines before.so_far before.told line (option_to_list taken.told) now before.lists as_numbered

    cut : lines_of deck ≡ before.lines ++ line ∷ lines_of after
    cut = before.cut ∙ ap (λ (l : List (List ℕ)). before.lines ++ l) next

-- a line was taken, and what is told of it is shown
pub taken_shown : {E : Type 0} (result : Result Unit E) (chart : Chart) (number : ℕ) (line : List ℕ) (standing now : Standing) (old new : Shown)
    (told : Option Fault)
    → ((so_far : Option (List (List ℕ))) → IsAt chart.lines so_far standing → Takes chart number line so_far (option_to_list told) now)
    → OnOk result (new.text.items ≡ old.text.items ++ flat_map (entry_told chart line) (option_to_list told))
    → OnOk result (new.first ≡ first_with old.first told)
    → OnOk result ((so_far : Option (List (List ℕ))) → IsAt chart.lines so_far standing → TakesShown chart number line so_far now old new)
taken_shown (Ok x) chart number line standing now old new told takes text first =
    λ so_far at. record { told = told; takes = takes so_far at; gains = record { first = first; text = text } }
taken_shown (Err e) chart number line standing now old new told takes text first = tt

-- a deck is too long
pub too_long : (chart : Chart) (deck rest after line : List ℕ) (standing : Standing) (shown : Shown) → HasShown chart deck rest standing shown
    → lines_of rest ≡ line ∷ lines_of after → standing.count ≡ most_cards → IsTooLong deck
too_long chart deck rest after line standing shown before next full =
    omega (arith, full, before.counted, ap length before.cut, length-append before.lines (lines_of rest), ap length next)

abbrev fault_in : Fault → Option Fault → Fault
fault_in other None = other
fault_in other (Some fault) = fault

none_first : (all : List Fault) → slice_get all 0 ≡ None → all ≡ []
none_first [] is = refl
none_first (fault ∷ later) is = absurd cc

-- behind the last line
module _ (chart : Chart) (deck rest : List ℕ) (standing : Standing) (old mid : Shown) (told : Option Fault)
    (before : HasShown chart deck rest standing old) (none : lines_of rest ≡ [])
    (are : option_to_list told ≡ totals_told chart before.so_far None) (gains : Gains chart [] told old mid) where
  all_lines : lines_of deck ≡ before.lines
  all_lines = before.cut ∙ ap (λ (l : List (List ℕ)). before.lines ++ l) none ∙ append-nil before.lines

  all_told : List Fault
  all_told = before.told ++ option_to_list told

  listing : IsListing chart deck (before.told ++ option_to_list told)
  listing = record {
    few = subst (λ (l : List (List ℕ)). length l ≤ most_cards) (sym all_lines) before.few;
    so_far = before.so_far;
    before = before.told;
    lists = subst (λ (l : List (List ℕ)). Lists chart l before.so_far before.told) (sym all_lines) before.lists;
    all = ap (λ (m : List Fault). before.told ++ m) are;
  }

  first : mid.first ≡ slice_get (before.told ++ option_to_list told) 0
  first = gains.first ∙ first_more before.told told old.first before.is_first

  text : mid.text.items ≡ entries_told chart deck (before.told ++ option_to_list told)
  text =
      gains.text
      ∙ ap (λ (front : List ℕ). front ++ flat_map (entry_told chart []) (option_to_list told)) before.text
      ∙ ap (λ (behind : List ℕ). entries_told chart deck before.told ++ behind)
      (ap (flat_map (entry_told chart [])) are ∙ totals_entries chart deck [] before.so_far None ∙ sym (ap (entries_told chart deck) are))
      ∙ sym (flat_map-append (entry_in chart deck) before.told (option_to_list told))

  -- something is told
  pub ends_shown : is_some mid.first ≡ true → IsShown chart deck mid.first mid.text.items
  ends_shown some = by (before.told ++ option_to_list told) listing first text mid.first refl some
    where
      by : (all : List Fault) → IsListing chart deck all → mid.first ≡ slice_get all 0 → mid.text.items ≡ entries_told chart deck all
          → (its : Option Fault) → mid.first ≡ its → is_some its ≡ true → IsShown chart deck its mid.text.items
      by all lists is shows None its there = absurd (false≢true there)
      by [] lists is shows (Some fault) its there = absurd (false≢true (ap is_some (sym is ∙ its)))
      by (one ∷ later) lists is shows (Some fault) its there =
          let same : one ≡ fault = ap (fault_in one) (sym is ∙ its) in
          record {
            later = later;
            listing = subst (λ (f : Fault). IsListing chart deck (f ∷ later)) same lists;
            shown = shows ∙ ap (λ (f : Fault). entries_told chart deck (f ∷ later)) same;
          }

  -- nothing is told
  pub ends_fine : (now : Standing) (words : List ℕ) → is_some mid.first ≡ false → now.count ≡ standing.count → now.first ≡ standing.first
      → now.last ≡ standing.last → words ≡ mid.text.items ++ fine_words now.count now.first now.last → IsShown chart deck mid.first words
  ends_fine now words not_some same_count same_first same_last written = by mid.first refl not_some
    where
      by : (its : Option Fault) → mid.first ≡ its → is_some its ≡ false → IsShown chart deck its words
      by (Some fault) its there = absurd (false≢true (sym there))
      by None its there =
          let empty : before.told ++ option_to_list told ≡ [] = none_first (before.told ++ option_to_list told) (sym first ∙ its) in
          let held = lines_told (before.told ++ option_to_list told) in
          let fine = fine_words now.count now.first now.last in
          let ended : HasEnded chart (Some deck) (Some []) (Some held) now mid.first = record {
            told = before.told ++ option_to_list told;
            lines = before.lines;
            so_far = before.so_far;
            before = before.told;
            lists = before.lists;
            all = ap (λ (m : List Fault). before.told ++ m) are;
            few = before.few;
            read = all_lines;
            edges = λ cards so_far.
                edges_of chart cards standing now (subst (λ s. IsAt chart.lines s standing) so_far before.at) same_count same_first same_last;
            listing = listing;
            written = refl;
            is_first = first;
          } in
          let writes = fine_written chart (Some deck) (Some []) (Some held) (Some (held ++ fine)) now mid.first ended its {E = Unit {0}} (Ok tt) refl in
          record {
            cards = writes.cards;
            fine = writes.fine;
            shown = written
                ∙ ap (λ (front : List ℕ). front ++ fine) (text ∙ ap (entries_told chart deck) empty)
                ∙ sym (ap (λ (all : List Fault). lines_told all ++ fine) empty)
                ∙ writes.written;
          }
