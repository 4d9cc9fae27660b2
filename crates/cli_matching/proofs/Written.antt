-- How what is found is written.
use Rattle.std.proofs.Common.{◌≡◌, subst, ℕ, List, Option, Some, None, IfSome}
use Rattle.std.specs.Io.KnownBytes.{Appends}
use Rattle.compile407.specs.Compilation.{Compilation}
use Rattle.cli_matching.specs.ChartCalls.ReadBack.{IsChartOf, PrintsChart}
use Rattle.cli_matching.specs.Decked.{PrintsOver}
use Rattle.cli_matching.specs.Found.{Prints, PrintsFound}
use Rattle.cli_matching.specs.Helper.{IsDeckText, IsFoundText}
use Rattle.cli_matching.specs.Panels.{ArePanels}
use Rattle.cli_matching.specs.declared.match_texts.counts.Counts.{Counts}
use Rattle.cli_matching.specs.declared.match_texts.telling.Telling.{Telling}
use Rattle.cli_matching.specs.declared.outcome.Outcome.{Outcome}
use Rattle.cli_matching.specs.declared.outcome.Outcome.TheVariants as outcome
use Rattle.hubs.specs.SetupsWords.Wiring.{Wiring}
use Rattle.wire_chart.specs.Below.wiring_text.declared.statement.Version.{Version}

module _ (chart wiring : List ℕ) (version : Version) (compiled : Compilation) (setup : Wiring)
    (panels : ArePanels chart wiring compiled version setup) (text bytes : List ℕ) (same : bytes ≡ text) (old new : Option (List ℕ))
    (written : Appends old new bytes) where
  prints : (IsRight : Version → Compilation → Wiring → List ℕ → Type 0) → IsRight version compiled setup text
      → Prints chart wiring IsRight old new
  prints IsRight right = record {
    compiled = compiled;
    version = version;
    setup = setup;
    panels = panels;
    text = text;
    right = right;
    written = subst (Appends old new) same written;
  }

  pub found_written : (telling : Telling) (counts : Option Counts) → IsFoundText telling wiring version compiled setup counts text
      → PrintsFound telling chart wiring counts old new
  found_written telling None right = prints _ right
  found_written telling (Some counts) right = prints _ right

  pub over_written : (deck : List ℕ) (found : Outcome) → IsDeckText wiring deck version compiled setup found text
      → PrintsOver chart wiring deck found old new
  over_written deck outcome.Wired right = prints _ right
  over_written deck (outcome.Unwired counts) right = prints _ right
  over_written deck (outcome.PrintsOtherwise place) right = prints _ right

-- how a chart is
pub chart_written : (wiring : List ℕ) (counts : Option Counts) (text bytes : List ℕ) (old new : Option (List ℕ)) → IsChartOf wiring counts text
    → bytes ≡ text → Appends old new bytes → PrintsChart wiring counts old new
chart_written wiring counts text bytes old new right same written =
    record { text = text; right = right; written = subst (Appends old new) same written }
