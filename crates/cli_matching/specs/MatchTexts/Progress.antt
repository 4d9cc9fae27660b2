-- How far a panel is that isn't wired for a chart: which lines of its wiring chart are extra, and which lines of the chart are done.
use Rattle.std.specs.Prelude.{◌≡◌, ℕ, ◌+◌, ◌==◌, List, [], ◌++◌, Option, Some, None, codes, decimal, if◌then◌else◌, length, slice_get}
use Rattle.card_code.specs.Lines.{lines_of}
use Rattle.chart_lines.specs.declared.charts.chart.Line.{Line}
use Rattle.cli_matching.specs.MatchTexts.Counts.{CountsDifferences}
use Rattle.cli_matching.specs.MatchTexts.ExtraNumbers.{NumbersExtra}
use Rattle.cli_matching.specs.MatchTexts.MatchText.{IsMatchText}
use Rattle.cli_matching.specs.MatchTexts.Missing.{under_heading}
use Rattle.cli_matching.specs.MatchTexts.PlanText.{group_words, plan_text}
use Rattle.cli_matching.specs.declared.match_texts.counts.Counts.{Counts}
use Rattle.cli_matching.specs.declared.match_texts.telling.Telling.{Telling}
use Rattle.cli_matching.specs.declared.match_texts.telling.Telling.TheVariants as telling
use Rattle.match_panels.specs.declared.matching.answer.Matching.{Matching}
use Rattle.match_panels.specs.declared.matching.answer.Matching.TheVariants.{Differs, Matched}
use Rattle.match_panels.specs.DifferencesWords.PanelProgress.Counts.{AreCountsBefore}
use Rattle.match_panels.specs.DifferencesWords.PanelProgress.ExtraLines.{AreToldLines}
use Rattle.match_panels.specs.DifferencesWords.PanelProgress.Forms.{form_beside}
use Rattle.match_panels.specs.DifferencesWords.PanelProgress.Standings.{counts_text, numbers_line, standings_text}
use Rattle.match_panels.specs.declared.differences.panel_progress.counting.LineCount.{LineCount}
use Rattle.match_plans.specs.Narrow.{IsNarrowOn}
use Rattle.match_plans.specs.declared.narrow.Narrow.{Narrow}
use Rattle.chart_plans.specs.PlansWords.Plans.{Lists}
use Rattle.hubs.specs.SetupsWords.Tapes.{CarriageTape}
use Rattle.hubs.specs.SetupsWords.Wiring.{Wiring}
use Rattle.wire_chart.specs.Below.wiring_text.declared.statement.Version.{Version}

-- The lines of a wiring chart that are extra: line 2, the form, where another is asked for, and those that say something that is extra.
pub record ListsExtra (version : Version) (wanted : CarriageTape) (extra : Wiring) (wiring text : List ℕ) : Type 0 where
  pub told : List ℕ
  pub are_told : AreToldLines version extra 1 (lines_of wiring) told
  pub spelled : text ≡ under_heading (codes "line 2: ") (form_beside extra.tape wanted) ++ told

-- that a group is too narrow for the total on the line with a number, if one is
abbrev pub narrow_words : ℕ → Option Narrow → List ℕ
narrow_words number None = []
narrow_words number (Some narrow) =
    codes "line " ++ decimal number ++ codes ": group" ++ group_words narrow.group ++ codes " is too narrow: " ++ decimal narrow.need
    ++ codes " positions are needed\n"

-- what is told of a line of the chart
pub record TellsNarrow (lines : List Line) (setup : Wiring) (line : Line) (told : List ℕ) : Type 0 where
  pub found : Option Narrow
  pub is : IsNarrowOn lines setup line found
  pub spelled : told ≡ narrow_words line.number found

-- of the lines before a place of the chart, one after another
pub data AreNarrow (lines : List Line) (setup : Wiring) : (place : ℕ) → List ℕ → Type 0 where
  none : AreNarrow lines setup 0 []
  next : (place : ℕ) (line : Line) (before told : List ℕ) → AreNarrow lines setup place before → slice_get lines place ≡ Some line
      → TellsNarrow lines setup line told → AreNarrow lines setup (place + 1) (before ++ told)

-- These lines, under a heading; then the groups that are named for totals and too narrow for them; and then which lines of the chart are done,
-- begun and not begun.
pub record TellsProgress (version : Version) (lines : List Line) (setup : Wiring) (plan : Lists) (missing extra : Wiring)
    (wiring text : List ℕ) : Type 0 where
  pub surplus : List ℕ
  pub lists : ListsExtra version missing.tape extra wiring surplus
  pub counts : List LineCount
  pub are_counts : AreCountsBefore lines plan setup (length lines) counts
  pub narrow : List ℕ
  pub are_narrow : AreNarrow lines setup (length lines) narrow
  pub spelled : text ≡ under_heading (codes "extra in the wiring chart\n") surplus ++ narrow ++ standings_text counts

-- so of what was found: nothing of a setup that is wired for the chart
abbrev pub IsProgressText : Version → List Line → Wiring → (wiring : List ℕ) → Matching → List ℕ → Type 0
IsProgressText version lines setup wiring (Matched plan) text = text ≡ []
IsProgressText version lines setup wiring (Differs plan missing extra) text = TellsProgress version lines setup plan missing extra wiring text

-- What is found, with what is missing and extra, and how far the panel is.
pub record TellsWires (version : Version) (lines : List Line) (setup : Wiring) (wiring : List ℕ) (matching : Matching) (text : List ℕ)
    : Type 0 where
  pub found : List ℕ
  pub tells : IsMatchText version lines setup matching found
  pub progress : List ℕ
  pub far : IsProgressText version lines setup wiring matching progress
  pub spelled : text ≡ found ++ progress

-- how much is extra, if anything is
abbrev pub extra_line : ℕ → List ℕ
extra_line extra = if extra == 0 then [] else codes "extra: " ++ decimal extra ++ codes "\n"

-- A hint names no wire, jack or stop: how much each line of the chart lacks, how much is extra, on which lines of the wiring chart, which groups
-- are too narrow, and which lines are done, begun and not begun.
pub record TellsHint (version : Version) (lines : List Line) (setup : Wiring) (plan : Lists) (missing extra : Wiring)
    (wiring text : List ℕ) : Type 0 where
  pub all : Counts
  pub counted : CountsDifferences missing extra all
  pub counts : List LineCount
  pub are_counts : AreCountsBefore lines plan setup (length lines) counts
  pub narrow : List ℕ
  pub are_narrow : AreNarrow lines setup (length lines) narrow
  pub numbers : List ℕ
  pub numbered : NumbersExtra version missing.tape extra wiring numbers
  pub spelled : text
      ≡ counts_text counts ++ extra_line all.extra ++ numbers_line (codes "extra in the wiring chart: ") numbers ++ narrow
      ++ standings_text counts

-- so of what was found
abbrev pub IsHintText : Version → List Line → Wiring → (wiring : List ℕ) → Matching → List ℕ → Type 0
IsHintText version lines setup wiring (Matched plan) text = text ≡ codes "ok\n" ++ plan_text lines plan
IsHintText version lines setup wiring (Differs plan missing extra) text = TellsHint version lines setup plan missing extra wiring text

-- what is told of what was found
abbrev pub IsToldText : Telling → (wiring : List ℕ) → Version → List Line → Wiring → Matching → List ℕ → Type 0
IsToldText telling.Wires wiring version lines setup matching text = TellsWires version lines setup wiring matching text
IsToldText telling.Hints wiring version lines setup matching text = IsHintText version lines setup wiring matching text
