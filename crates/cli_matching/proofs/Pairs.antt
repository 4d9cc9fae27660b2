-- What is told of a deck on two panels.
use Rattle.std.proofs.Common.{◌≡◌, ℕ, List, [], ◌++◌, Some, None, ap, ◌∙◌, codes}
use Rattle.card_code.specs.Deck.{Deck}
use Rattle.compile407.specs.Compilation.{Compilation}
use Rattle.explain_words.specs.ExplanationText.ExplanationTexts.{Explains}
use Rattle.explain_wheels.specs.ExplanationsWords.PlacedInRun.{PrintsNoneAt}
use Rattle.cli_matching.specs.Apart.{IsAlikeText, IsApartText, IsOtherwiseText, IsPairText, IsWheelText, printed, unprinted}
use Rattle.cli_matching.specs.Found.{IsUnwiredText}
use Rattle.cli_matching.specs.MatchDecks.Wheels.{DifferOnDeck}
use Rattle.cli_matching.specs.declared.match_decks.lines.LinePlace.{LinePlace}
use Rattle.cli_matching.specs.declared.match_decks.wheels.Difference.{Difference}
use Rattle.cli_matching.specs.declared.match_texts.counts.Counts.{Counts}
use Rattle.cli_matching.specs.declared.match_texts.telling.Telling.TheVariants.{Wires}
use Rattle.hubs.specs.SetupsWords.Wiring.{Wiring}
use Rattle.wire_chart.specs.Below.wiring_text.declared.statement.Version.{Version}

-- of a wheel
pub wheel_printed : (setup : Wiring) (cards : List (List ℕ)) (at : Difference) (text : List ℕ)
    → Explains setup [] cards at.place.page at.place.line at.wheel text → IsWheelText setup cards at text
wheel_printed setup cards at text explains = printed explains

pub wheel_unprinted : (setup : Wiring) (cards : List (List ℕ)) (at : Difference) (text : List ℕ)
    → PrintsNoneAt setup cards at.place.page at.place.line → text ≡ codes "no line is printed here\n" → IsWheelText setup cards at text
wheel_unprinted setup cards at text none is = unprinted none is

-- on both panels
pub pair_told : (own setup : Wiring) (cards : List (List ℕ)) (at : Difference) (before behind begun mid third text : List ℕ)
    → IsWheelText own cards at before → IsWheelText setup cards at behind → begun ≡ codes "wired for the chart\n"
    → mid ≡ begun ++ before → third ≡ mid ++ codes "wired as here\n" → text ≡ third ++ behind → IsPairText own setup cards at text
pair_told own setup cards at before behind begun mid third text own_told told first second title last = record {
  before = before;
  own_told = own_told;
  behind = behind;
  told = told;
  spelled = last
      ∙ ap (λ (front : List ℕ). front ++ behind)
      (title ∙ ap (λ (front : List ℕ). front ++ codes "wired as here\n")
      (second ∙ ap (λ (front : List ℕ). front ++ before) first));
}

-- of the first line that differs
pub apart_told : (own setup : Wiring) (cards : List (List ℕ)) (at : Difference) (place : LinePlace) (text : List ℕ)
    → DifferOnDeck own setup cards (Some at) → IsPairText own setup cards at text → place ≡ at.place
    → IsApartText own setup cards place text
apart_told own setup cards at place text differ pair its = record { at = at; its_place = its; differ = differ; pair = pair }

-- of the whole deck
pub alike_told : (wiring deck : List ℕ) (counts : Counts) (version : Version) (compiled : Compilation) (setup : Wiring) (text : List ℕ)
    (cards : List (List ℕ))
    → IsUnwiredText Wires wiring counts version compiled setup text → DifferOnDeck compiled.setup setup cards None → Deck deck cards
    → IsAlikeText wiring deck counts version compiled setup text
alike_told wiring deck counts version compiled setup text cards unwired alike punched =
    record { unwired = unwired; cards = cards; punched = punched; alike = alike }

pub otherwise_told : (wiring deck : List ℕ) (counts : Counts) (place : LinePlace) (version : Version) (compiled : Compilation)
    (setup : Wiring) (difference line text : List ℕ) (cards : List (List ℕ)) → IsUnwiredText Wires wiring counts version compiled setup difference
    → IsApartText compiled.setup setup cards place line → text ≡ difference ++ line → Deck deck cards
    → IsOtherwiseText wiring deck place version compiled setup text
otherwise_told wiring deck counts place version compiled setup difference line text cards unwired apart spelled punched = record {
  counts = counts;
  difference = difference;
  unwired = unwired;
  cards = cards;
  punched = punched;
  line = line;
  apart = apart;
  spelled = spelled;
}
