-- Counts of lines, one after another.
use Rattle.std.proofs.Common.{◌≡◌, ◌∙◌, ap, sym, subst, ℕ, ◌+◌, List, [], ◌∷◌, ◌++◌, Some, slice_get}
use Rattle.chart_lines.specs.declared.charts.chart.Line.{Line}
use Rattle.match_panels.specs.DifferencesWords.Differences.{HasSize, IsDifference}
use Rattle.match_panels.specs.DifferencesWords.PanelProgress.Counts.{AreCountsBefore, IsCountOf, forms_asked, forms_missing}
use Rattle.match_panels.specs.DifferencesWords.PanelProgress.Counts.AreCountsBefore.{none, next}
use Rattle.match_panels.specs.declared.differences.panel_progress.counting.LineCount.{LineCount}
use Rattle.chart_plans.specs.PlansWords.Plans.{Lists}
use Rattle.hubs.specs.SetupsWords.Tapes.{CarriageTape}
use Rattle.hubs.specs.SetupsWords.Wiring.{Wiring}
use Rattle.wire_gen.specs.OfLine.{IsSetupOfLine}

module _ (lines : List Line) (plan : Lists) (setup : Wiring) where
  pub counts_none : (counts : List LineCount) → counts ≡ [] → AreCountsBefore lines plan setup 0 counts
  counts_none counts is = subst (AreCountsBefore lines plan setup 0) (sym is) none

  pub counts_more : (place : ℕ) (line : Line) (before after : List LineCount) (count : LineCount)
      → AreCountsBefore lines plan setup place before → slice_get lines place ≡ Some line → IsCountOf lines plan setup line count
      → after ≡ before ++ count ∷ [] → AreCountsBefore lines plan setup (place + 1) after
  counts_more place line before after count are at is gained =
      subst (AreCountsBefore lines plan setup (place + 1)) (sym gained) (next place line before count are at is)

  -- of one line; `one` and `its` are the tapes that were looked at
  pub counted : (line : Line) (count : LineCount) (wanted lacking : Wiring) (one its : CarriageTape)
      (parts lacking_parts forms_of forms_gone : ℕ) → IsSetupOfLine lines plan line wanted → IsDifference wanted setup lacking
      → HasSize wanted parts → HasSize lacking lacking_parts → one ≡ wanted.tape → its ≡ setup.tape
      → forms_of ≡ forms_asked line.statement → forms_gone ≡ forms_missing line.statement one its → count.number ≡ line.number
      → count.asked ≡ parts + forms_of → count.missing ≡ lacking_parts + forms_gone → IsCountOf lines plan setup line count
  counted line count wanted lacking one its parts lacking_parts forms_of forms_gone asks is_difference size lacking_size is_one is_its
      of_line gone numbered asked missing = record {
        numbered = numbered;
        wanted = wanted;
        asks = asks;
        parts = parts;
        size = size;
        asked = asked ∙ ap (λ (n : ℕ). parts + n) of_line;
        lacking = lacking;
        is_difference = is_difference;
        lacking_parts = lacking_parts;
        lacking_size = lacking_size;
        missing = missing
            ∙ ap (λ (n : ℕ). lacking_parts + n)
            (gone ∙ ap (λ (t : CarriageTape). forms_missing line.statement t its) is_one
            ∙ ap (λ (t : CarriageTape). forms_missing line.statement wanted.tape t) is_its);
      }
