-- What is found of a deck on the chart's own panel and another that is not wired for the chart.
use Rattle.std.specs.Prelude.{◌≡◌, ℕ, List, [], ◌++◌, Some, None, codes}
use Rattle.card_code.specs.Deck.{Deck}
use Rattle.compile407.specs.Compilation.{Compilation}
use Rattle.explain_words.specs.ExplanationText.ExplanationTexts.{Explains}
use Rattle.explain_wheels.specs.ExplanationsWords.PlacedInRun.{PrintsNoneAt}
use Rattle.cli_matching.specs.Found.{IsUnwiredText}
use Rattle.cli_matching.specs.MatchDecks.Wheels.{DifferOnDeck}
use Rattle.cli_matching.specs.declared.match_decks.lines.LinePlace.{LinePlace}
use Rattle.cli_matching.specs.declared.match_decks.wheels.Difference.{Difference}
use Rattle.cli_matching.specs.declared.match_texts.counts.Counts.{Counts}
use Rattle.cli_matching.specs.declared.match_texts.telling.Telling.TheVariants.{Wires}
use Rattle.hubs.specs.SetupsWords.Wiring.{Wiring}
use Rattle.wire_chart.specs.Below.wiring_text.declared.statement.Version.{Version}

-- What is told of a wheel of a line on a panel: why it printed its character, with no word of who asks for the wires, or that no line is printed there
pub data IsWheelText (setup : Wiring) (cards : List (List ℕ)) (at : Difference) (text : List ℕ) : Type 0 where
  printed : Explains setup [] cards at.place.page at.place.line at.wheel text → IsWheelText setup cards at text
  unprinted : PrintsNoneAt setup cards at.place.page at.place.line → text ≡ codes "no line is printed here\n"
      → IsWheelText setup cards at text

-- it is told of the chart's own panel, and then of the other
pub record IsPairText (own setup : Wiring) (cards : List (List ℕ)) (at : Difference) (text : List ℕ) : Type 0 where
  pub before : List ℕ
  pub own_told : IsWheelText own cards at before
  pub behind : List ℕ
  pub told : IsWheelText setup cards at behind
  pub spelled : text ≡ codes "wired for the chart\n" ++ before ++ codes "wired as here\n" ++ behind

-- The first line that the panels print differently of the cards stands at this place; it is told of the first wheel on which it differs.
pub record IsApartText (own setup : Wiring) (cards : List (List ℕ)) (place : LinePlace) (text : List ℕ) : Type 0 where
  pub at : Difference
  pub its_place : place ≡ at.place
  pub differ : DifferOnDeck own setup cards (Some at)
  pub pair : IsPairText own setup cards at text

-- The panel is not wired for the chart, and yet prints the same lines of this deck as the chart's own.
pub record IsAlikeText (wiring deck : List ℕ) (counts : Counts) (version : Version) (compiled : Compilation) (setup : Wiring) (text : List ℕ)
    : Type 0 where
  pub unwired : IsUnwiredText Wires wiring counts version compiled setup text
  pub cards : List (List ℕ)
  pub punched : Deck deck cards
  pub alike : DifferOnDeck compiled.setup setup cards None

-- The panel is not wired for the chart, and prints a line of this deck otherwise: behind what is missing and extra it is told how.
pub record IsOtherwiseText (wiring deck : List ℕ) (place : LinePlace) (version : Version) (compiled : Compilation) (setup : Wiring) (text : List ℕ)
    : Type 0 where
  pub counts : Counts
  pub difference : List ℕ
  pub unwired : IsUnwiredText Wires wiring counts version compiled setup difference
  pub cards : List (List ℕ)
  pub punched : Deck deck cards
  pub line : List ℕ
  pub apart : IsApartText compiled.setup setup cards place line
  pub spelled : text ≡ difference ++ line
