-- How a replay stands in the text of its deck.
use Rattle.std.proofs.Common.{subst, List, ℕ, [], ◌∷◌, Option, Some}
use Rattle.card_code.proofs.Faults.{Deck-same}
use Rattle.card_code.specs.Deck.{ComesFirst, Deck, IsDeckText}
use Rattle.machine.specs.Running.{IsStarted, Running}
use Rattle.report_writer.specs.Outgoing.{Outgoing}
use Rattle.report_writer.specs.Writing.{Writing}
use Rattle.cli_commands.proofs.CommandsWords.DeckReplays.Standing.{stands_at_start, stands_on}
use Rattle.cli_commands.specs.CommandsWords.DeckReplays.HelperFeeding.{TakesFeed}
use Rattle.cli_commands.specs.CommandsWords.DeckReplays.HelperStanding.{IsUnbegun, Stands, StandsInText}
use Rattle.hubs.specs.SetupsWords.Tapes.{IsCarriageTape}
use Rattle.hubs.specs.SetupsWords.Wiring.{Wiring}

module _ {S : Type 0} (held : S → Option (List ℕ)) (wiring : Wiring) (deck : List ℕ) where
  -- before the first card
  pub in_text_at_start : IsDeckText deck → (machine : Running) (writing : Writing S) → IsStarted wiring machine → IsUnbegun wiring writing
      → StandsInText held wiring deck deck writing.out machine writing
  in_text_at_start is_deck machine writing started unbegun = record {
    cards = is_deck.cards;
    punched = is_deck.deck;
    left = is_deck.cards;
    left_punched = is_deck.deck;
    stands = stands_at_start held wiring is_deck.cards machine writing started unbegun;
  }

  module _ (begun : Outgoing S) (text : List ℕ) (machine : Running) (writing : Writing S)
      (place : StandsInText held wiring deck text begun machine writing) where
    -- the text left is a deck's
    pub left_is_deck : IsDeckText text
    left_is_deck = record { cards = place.left; deck = place.left_punched }

    -- before other cards that the text left is punched with
    before : (others : List (List ℕ)) → Deck text others → Stands held wiring place.cards others begun machine writing
    before others punched =
        subst (λ (left : List (List ℕ)). Stands held wiring place.cards left begun machine writing)
        (Deck-same text place.left others place.left_punched punched) place.stands

    -- before the card that comes first
    pub before_card : (card rest : List ℕ) → (first : ComesFirst text card rest)
        → Stands held wiring place.cards (card ∷ first.others) begun machine writing
    before_card card rest first = before (card ∷ first.others) first.whole

    -- before the end
    pub before_end : Deck text [] → Stands held wiring place.cards [] begun machine writing
    before_end none = before [] none

    -- a card more
    pub in_text_on : IsCarriageTape wiring.tape → (card rest : List ℕ) → ComesFirst text card rest → (left : Running) (new : Writing S)
        → TakesFeed held machine (Some card) left writing new → StandsInText held wiring deck rest begun left new
    in_text_on form card rest first left new takes = record {
      cards = place.cards;
      punched = place.punched;
      left = first.others;
      left_punched = first.left;
      stands = stands_on held wiring place.cards form place.punched.few begun card first.others machine left writing new
          (before_card card rest first) takes;
    }
