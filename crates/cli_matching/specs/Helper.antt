-- Helpers of the code: what is told of what was found.
use Rattle.std.specs.Prelude.{ℕ, List, Option, Some, None, string_bytes}
use Rattle.compile407.specs.Compilation.{Compilation}
use Rattle.cli_matching.specs.Apart.{IsAlikeText, IsApartText, IsOtherwiseText}
use Rattle.cli_matching.specs.Found.{IsUnwiredText, IsWiredText}
use Rattle.cli_matching.specs.declared.apart.Apart.{Apart}
use Rattle.cli_matching.specs.declared.outcome.Outcome.{Outcome}
use Rattle.cli_matching.specs.declared.outcome.Outcome.TheVariants as outcome
use Rattle.cli_matching.specs.MatchDecks.Wheels.{DifferOnDeck}
use Rattle.cli_matching.specs.declared.match_texts.counts.Counts.{Counts}
use Rattle.cli_matching.specs.declared.match_texts.telling.Telling.{Telling}
use Rattle.hubs.specs.SetupsWords.Wiring.{Wiring}
use Rattle.wire_chart.specs.Below.wiring_text.declared.statement.Version.{Version}

-- the text of what was found, by the counts
abbrev pub IsFoundText : Telling → (wiring : List ℕ) → Version → Compilation → Wiring → Option Counts → List ℕ → Type 0
IsFoundText telling wiring version compiled setup None text = IsWiredText compiled setup text
IsFoundText telling wiring version compiled setup (Some counts) text = IsUnwiredText telling wiring counts version compiled setup text

-- the first line that two panels print differently, or none
abbrev pub IsApart : (own setup : Wiring) (cards : List (List ℕ)) → Option Apart → Type 0
IsApart own setup cards None = DifferOnDeck own setup cards None
IsApart own setup cards (Some apart) = IsApartText own setup cards apart.place (string_bytes apart.text)

-- the text of what was found over a deck, by the outcome
abbrev pub IsDeckText : (wiring deck : List ℕ) → Version → Compilation → Wiring → Outcome → List ℕ → Type 0
IsDeckText wiring deck version compiled setup outcome.Wired text = IsWiredText compiled setup text
IsDeckText wiring deck version compiled setup (outcome.Unwired counts) text = IsAlikeText wiring deck counts version compiled setup text
IsDeckText wiring deck version compiled setup (outcome.PrintsOtherwise place) text =
    IsOtherwiseText wiring deck place version compiled setup text
