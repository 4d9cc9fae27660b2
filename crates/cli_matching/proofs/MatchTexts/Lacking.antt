-- What is told of the lines of a chart, one by one.
use Rattle.std.proofs.Common.{◌≡◌, ℕ, ◌+◌, List, [], ◌∷◌, ◌++◌, Some, slice_get, sym, ap, ◌∙◌, subst, append-nil, append_assoc, length, refl}
use Rattle.chart_lines.specs.declared.charts.chart.Line.{Line}
use Rattle.cli_matching.specs.MatchTexts.Helper.{GainsBefore, GainsLacking}
use Rattle.cli_matching.specs.MatchTexts.Missing.{LacksOnLine, line_heading, under_heading, none, next}
use Rattle.chart_plans.specs.PlansWords.Plans.{Lists}
use Rattle.hubs.specs.SetupsWords.Wiring.{Wiring}
use Rattle.wire_chart.specs.Below.wiring_text.declared.statement.Version.{Version}

module _ (version : Version) (lines : List Line) (plan : Lists) (setup : Wiring) where
  -- of no line
  pub lacking_none : (text : List ℕ) → GainsBefore version lines plan setup 0 text text
  lacking_none text = record { told = []; are = none; gained = sym (append-nil text) }

  -- of one line more
  pub lacking_more : (place : ℕ) (line : Line) (old mid new : List ℕ) → GainsBefore version lines plan setup place old mid
      → slice_get lines place ≡ Some line → GainsLacking version lines plan setup line mid new
      → GainsBefore version lines plan setup (place + 1) old new
  lacking_more place line old mid new before there gains = record {
    told = before.told ++ gains.told;
    are = next place line before.told gains.told before.are there gains.is;
    gained = gains.gained ∙ ap (λ (text : List ℕ). text ++ gains.told) before.gained ∙ append_assoc old before.told gains.told;
  }

  pub lacking_all : (place : ℕ) (old new : List ℕ) → GainsBefore version lines plan setup place old new → place ≡ length lines
      → GainsBefore version lines plan setup (length lines) old new
  lacking_all place old new gains all = subst (λ (n : ℕ). GainsBefore version lines plan setup n old new) all gains

  -- of a line of which nothing is missing, and of any other
  pub nothing_lacks : (line : Line) (text old : List ℕ) → LacksOnLine version lines plan setup line text → text ≡ []
      → GainsLacking version lines plan setup line old old
  nothing_lacks line text old lacks empty = record {
    told = [];
    is = record { text = text; lacks = lacks; headed = sym (ap (under_heading (line_heading lines line)) empty) };
    gained = sym (append-nil old);
  }

  pub something_lacks : (line : Line) (text old mid new : List ℕ) → LacksOnLine version lines plan setup line text
      → (text ≡ [] → ⊥) → mid ≡ old ++ line_heading lines line → new ≡ mid ++ text → GainsLacking version lines plan setup line old new
  something_lacks line text old mid new lacks some headed last = record {
    told = line_heading lines line ++ text;
    is = record { text = text; lacks = lacks; headed = under text some };
    gained = last ∙ ap (λ (front : List ℕ). front ++ text) headed ∙ append_assoc old (line_heading lines line) text;
  }
    where
      under : (body : List ℕ) → (body ≡ [] → ⊥) → line_heading lines line ++ body ≡ under_heading (line_heading lines line) body
      under [] some = absurd (some refl)
      under (byte ∷ bytes) some = refl
