-- What is told of how far a panel is.
use Rattle.std.proofs.Common.{◌≡◌, ◌∙◌, ap, refl, sym, subst, ℕ, ◌+◌, List, [], ◌++◌, Option, Some, codes, length, slice_get}
use Rattle.card_code.specs.Lines.{lines_of}
use Rattle.chart_lines.specs.declared.charts.chart.Line.{Line}
use Rattle.cli_matching.specs.MatchTexts.Counts.{CountsDifferences}
use Rattle.cli_matching.specs.MatchTexts.ExtraNumbers.{NumbersExtra}
use Rattle.cli_matching.specs.MatchTexts.MatchText.{IsMatchText}
use Rattle.cli_matching.specs.MatchTexts.Missing.{under_heading}
use Rattle.cli_matching.specs.MatchTexts.Progress.{AreNarrow, IsProgressText, ListsExtra, TellsHint, TellsProgress, TellsWires, extra_line, narrow_words}
use Rattle.cli_matching.specs.MatchTexts.Progress.AreNarrow.{next, none}
use Rattle.cli_matching.specs.declared.match_texts.counts.Counts.{Counts}
use Rattle.match_panels.specs.declared.matching.answer.Matching.{Matching}
use Rattle.match_plans.specs.Narrow.{IsNarrowOn}
use Rattle.match_plans.specs.declared.narrow.Narrow.{Narrow}
use Rattle.match_panels.specs.DifferencesWords.PanelProgress.Counts.{AreCountsBefore}
use Rattle.match_panels.specs.DifferencesWords.PanelProgress.ExtraLines.{AreToldLines}
use Rattle.match_panels.specs.DifferencesWords.PanelProgress.Forms.{form_beside}
use Rattle.match_panels.specs.DifferencesWords.PanelProgress.Standings.{counts_text, numbers_line, standings_text}
use Rattle.match_panels.specs.declared.differences.panel_progress.counting.LineCount.{LineCount}
use Rattle.chart_plans.specs.PlansWords.Plans.{Lists}
use Rattle.hubs.specs.SetupsWords.Tapes.{CarriageTape}
use Rattle.hubs.specs.SetupsWords.Wiring.{Wiring}
use Rattle.wire_chart.specs.Below.wiring_text.declared.statement.Version.{Version}

-- the lines that are extra
pub extra_listed : (version : Version) (missing extra : Wiring) (its wanted : CarriageTape) (wiring bare form begun headed told text : List ℕ)
    → its ≡ extra.tape → wanted ≡ missing.tape → bare ≡ [] → form ≡ bare ++ form_beside its wanted → begun ≡ []
    → headed ≡ begun ++ under_heading (codes "line 2: ") form → AreToldLines version extra 1 (lines_of wiring) told → text ≡ headed ++ told
    → ListsExtra version missing.tape extra wiring text
extra_listed version missing extra its wanted wiring bare form begun headed told text is_its is_wanted empty formed also second are last = record {
  told = told;
  are_told = are;
  spelled = last
      ∙ ap (λ (front : List ℕ). front ++ told)
      (second ∙ ap (λ (front : List ℕ). front ++ under_heading (codes "line 2: ") form) also
      ∙ ap (λ (body : List ℕ). under_heading (codes "line 2: ") body) (formed ∙ ap (λ (front : List ℕ). front ++ form_beside its wanted) empty
      ∙ ap (λ (t : CarriageTape). form_beside t wanted) is_its ∙ ap (λ (t : CarriageTape). form_beside extra.tape t) is_wanted));
}

-- of no line a narrow group
pub narrow_none : (lines : List Line) (setup : Wiring) (text : List ℕ) → text ≡ [] → AreNarrow lines setup 0 text
narrow_none lines setup text empty = subst (AreNarrow lines setup 0) (sym empty) none

-- of one line more
pub narrow_more : (lines : List Line) (setup : Wiring) (place : ℕ) (line : Line) (found : Option Narrow) (old new : List ℕ)
    → AreNarrow lines setup place old → slice_get lines place ≡ Some line → IsNarrowOn lines setup line found
    → new ≡ old ++ narrow_words line.number found → AreNarrow lines setup (place + 1) new
narrow_more lines setup place line found old new before there is gained =
    subst (AreNarrow lines setup (place + 1)) (sym gained)
    (next place line old (narrow_words line.number found) before there (record { found = found; is = is; spelled = refl }))

-- how far a panel is
pub progress_told : (version : Version) (lines : List Line) (setup : Wiring) (plan : Lists) (missing extra : Wiring) (wiring : List ℕ)
    (surplus narrow begun headed mid text : List ℕ) (counts slice : List LineCount) → ListsExtra version missing.tape extra wiring surplus
    → AreNarrow lines setup (length lines) narrow → AreCountsBefore lines plan setup (length lines) counts → slice ≡ counts → begun ≡ []
    → headed ≡ begun ++ under_heading (codes "extra in the wiring chart\n") surplus → mid ≡ headed ++ narrow
    → text ≡ mid ++ standings_text slice → TellsProgress version lines setup plan missing extra wiring text
progress_told version lines setup plan missing extra wiring surplus narrow begun headed mid text counts slice lists few are same empty first second
    last = record {
      surplus = surplus;
      lists = lists;
      counts = counts;
      are_counts = are;
      narrow = narrow;
      are_narrow = few;
      spelled = last
          ∙ ap (λ (each : List LineCount). mid ++ standings_text each) same
          ∙ ap (λ (front : List ℕ). front ++ standings_text counts)
          (second ∙ ap (λ (front : List ℕ). front ++ narrow)
          (first ∙ ap (λ (front : List ℕ). front ++ under_heading (codes "extra in the wiring chart\n") surplus) empty));
    }

-- a hint
pub hint_told : (version : Version) (lines : List Line) (setup : Wiring) (plan : Lists) (missing extra : Wiring) (wiring : List ℕ) (all : Counts)
    (narrow begun first second numbered third text numbers those : List ℕ) (counts slice other : List LineCount)
    → CountsDifferences missing extra all → AreNarrow lines setup (length lines) narrow
    → AreCountsBefore lines plan setup (length lines) counts → NumbersExtra version missing.tape extra wiring numbers → slice ≡ counts
    → other ≡ counts → those ≡ numbers → begun ≡ [] → first ≡ begun ++ counts_text slice → second ≡ first ++ extra_line all.extra
    → numbered ≡ second ++ numbers_line (codes "extra in the wiring chart: ") those → third ≡ numbered ++ narrow
    → text ≡ third ++ standings_text other → TellsHint version lines setup plan missing extra wiring text
hint_told version lines setup plan missing extra wiring all narrow begun first second numbered third text numbers those counts slice other
    counted few are known same also these empty one two between three last = record {
      all = all;
      counted = counted;
      counts = counts;
      are_counts = are;
      narrow = narrow;
      are_narrow = few;
      numbers = numbers;
      numbered = known;
      spelled = last
          ∙ ap (λ (each : List LineCount). third ++ standings_text each) also
          ∙ ap (λ (front : List ℕ). front ++ standings_text counts)
          (three ∙ ap (λ (front : List ℕ). front ++ narrow)
          (between ∙ ap (λ (list : List ℕ). second ++ numbers_line (codes "extra in the wiring chart: ") list) these
          ∙ ap (λ (front : List ℕ). front ++ numbers_line (codes "extra in the wiring chart: ") numbers)
          (two ∙ ap (λ (front : List ℕ). front ++ extra_line all.extra)
          (one ∙ ap (λ (front : List ℕ). front ++ counts_text slice) empty ∙ ap counts_text same))));
    }

-- all of it
pub wires_told : (version : Version) (lines : List Line) (setup : Wiring) (wiring : List ℕ) (matching : Matching) (found progress text : List ℕ)
    → IsMatchText version lines setup matching found → IsProgressText version lines setup wiring matching progress → text ≡ found ++ progress
    → TellsWires version lines setup wiring matching text
wires_told version lines setup wiring matching found progress text tells far spelled =
    record { found = found; tells = tells; progress = progress; far = far; spelled = spelled }
