-- What is told of folded texts that are refused.
use Rattle.std.proofs.Common.{◌≡◌, ◌⊎◌, ℕ, Bool, true, false, Option, List, Result, Ok, Err, sym, ◌∙◌, take}
use Rattle.std.proofs.lemmas.Bool.{false≢true}
use Rattle.std.specs.Io.KnownBytes.{Appends}
use Rattle.std.specs.Prelude.{MatchResult, OnOk}
use Rattle.card_code.specs.Deck.{HasDeckFault}
use Rattle.card_code.specs.Lines.{lines_of}
use Rattle.card_code.specs.MostCards.{most_cards}
use Rattle.card_code.specs.declared.deck.DeckFault.{DeckFault}
use Rattle.card_code.specs.declared.deck.DeckFault.TheVariants as deck
use Rattle.cli_decks.specs.FoldingWords.FoldCalls.LongCards.{long_cards}
use Rattle.cli_decks.specs.FoldingWords.FoldCalls.FoldEnds.{IsRefused, is_too_long, long_lines}

module _ {X E : Type 0} (told : Result X E) (status : ℕ) (is_told : Bool)
    (ends : MatchResult told (λ _. (status ≡ 3) × (is_told ≡ true)) (λ _. ((status ≡ 4) ⊎ (status ≡ 5)) × (is_told ≡ false))) where
  -- if they were told, they were written
  pub ended_told : (Written : Type 0) → OnOk told Written → is_told ≡ true → Written
  ended_told Written written is_whole = by told ends written
    where
      by : (of : Result X E) → MatchResult of (λ _. (status ≡ 3) × (is_told ≡ true)) (λ _. ((status ≡ 4) ⊎ (status ≡ 5)) × (is_told ≡ false))
          → OnOk of Written → Written
      by (Ok _) is was = was
      by (Err _) is was = absurd (false≢true (sym is.1 ∙ is_whole))

  -- each line that is too long was told
  pub long_is_refused : (folded : List ℕ) (cause : DeckFault) (old new : Option (List ℕ)) → is_too_long cause ≡ true → HasDeckFault folded cause
      → OnOk told (Appends old new (long_cards 1 (take most_cards (lines_of folded)))) → IsRefused folded is_told old new
  long_is_refused folded (deck.CardTooLong line) old new is has written = long_lines line has (ended_told _ written)
  long_is_refused folded (deck.NoSuchCharacter line column) old new is has written = absurd (false≢true is)
  long_is_refused folded deck.TooManyCards old new is has written = absurd (false≢true is)
  long_is_refused folded deck.Memory old new is has written = absurd (false≢true is)
