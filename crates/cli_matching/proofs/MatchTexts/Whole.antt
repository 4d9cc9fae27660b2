-- A text that is written piece by piece.
use Rattle.std.proofs.Common.{◌≡◌, ℕ, List, [], ◌∷◌, ◌++◌, ap, ◌∙◌, subst, sym, refl, append-nil, append_assoc, codes, length}
use Rattle.chart_lines.specs.declared.charts.chart.Line.{Line}
use Rattle.match_panels.specs.DifferencesWords.Differences.{IsDifference}
use Rattle.match_panels.specs.DifferencesWords.PanelProgress.Forms.{form_beside}
use Rattle.cli_matching.specs.MatchTexts.Helper.{GainsMissing, GainsSurplus, IsSurplus}
use Rattle.cli_matching.specs.MatchTexts.MatchText.{TellsDifference}
use Rattle.cli_matching.specs.MatchTexts.Missing.{AreLacking, LacksOnLine, missing_form, under_heading}
use Rattle.cli_matching.specs.MatchTexts.PlanText.{plan_text}
use Rattle.chart_plans.specs.PlansWords.Plans.{Lists}
use Rattle.hubs.specs.SetupsWords.Tapes.{CarriageTape}
use Rattle.hubs.specs.SetupsWords.Wiring.{Wiring}
use Rattle.wire_chart.specs.Below.wiring_text.declared.statement.Version.{Version}
use Rattle.wire_chart.specs.Parts.{GainsParts}
use Rattle.wire_gen.specs.OfLine.{IsSetupOfLine}

-- what a line lacks
pub line_lacks : (version : Version) (lines : List Line) (plan : Lists) (setup : Wiring) (line : Line) (wanted lacking : Wiring)
    (formed text : List ℕ) → IsSetupOfLine lines plan line wanted → IsDifference wanted setup lacking
    → formed ≡ missing_form line.statement wanted.tape setup.tape → GainsParts version lacking formed text
    → LacksOnLine version lines plan setup line text
line_lacks version lines plan setup line wanted lacking formed text asked is begun gains = record {
  wanted = wanted;
  asked = asked;
  lacking = lacking;
  is_difference = is;
  parts = gains.parts;
  are = gains.are;
  spelled = gains.gained ∙ ap (λ (front : List ℕ). front ++ gains.parts) begun;
}

-- what is extra
pub surplus_gained : (version : Version) (wanted : CarriageTape) (extra : Wiring) (old mid new : List ℕ)
    → mid ≡ old ++ form_beside extra.tape wanted → GainsParts version extra mid new → GainsSurplus version wanted extra old new
surplus_gained version wanted extra old mid new begun gains = record {
  parts = gains.parts;
  are = gains.are;
  gained = gains.gained ∙ ap (λ (front : List ℕ). front ++ gains.parts) begun;
}

-- texts of their own
pub missing_alone : (version : Version) (lines : List Line) (plan : Lists) (setup : Wiring) (old new : List ℕ) → old ≡ []
    → GainsMissing version lines plan setup old new → AreLacking version lines plan setup (length lines) new
missing_alone version lines plan setup old new empty gains =
    subst (AreLacking version lines plan setup (length lines)) (sym (gains.gained ∙ ap (λ (front : List ℕ). front ++ gains.told) empty)) gains.are

pub surplus_alone : (version : Version) (wanted : CarriageTape) (extra : Wiring) (old new : List ℕ) → old ≡ []
    → GainsSurplus version wanted extra old new → IsSurplus version wanted extra new
surplus_alone version wanted extra old new empty gains = record {
  parts = gains.parts;
  are = gains.are;
  spelled = gains.gained ∙ ap (λ (front : List ℕ). front ++ form_beside extra.tape wanted ++ gains.parts) empty;
}

-- the plan, what is missing, and what is extra
pub difference_told : (version : Version) (lines : List Line) (setup : Wiring) (plan : Lists) (missing extra : Wiring)
    (planned lacking titled surplus text : List ℕ) → planned ≡ plan_text lines plan
    → AreLacking version lines plan setup (length lines) lacking → titled ≡ planned ++ under_heading (codes "missing\n") lacking
    → IsSurplus version missing.tape extra surplus → text ≡ titled ++ under_heading (codes "extra\n") surplus
    → TellsDifference version lines setup plan missing extra text
difference_told version lines setup plan missing extra planned lacking titled surplus text first lacks second is third = record {
  lacking = lacking;
  are_lacking = lacks;
  surplus = is.parts;
  are_surplus = is.are;
  spelled = third
      ∙ ap (λ (body : List ℕ). titled ++ under_heading (codes "extra\n") body) is.spelled
      ∙ ap (λ (front : List ℕ). front ++ under_heading (codes "extra\n") (form_beside extra.tape missing.tape ++ is.parts))
      (second ∙ ap (λ (front : List ℕ). front ++ under_heading (codes "missing\n") lacking) first);
}

-- a text under a heading
pub nothing_headed : (heading body old : List ℕ) → body ≡ [] → old ≡ old ++ under_heading heading body
nothing_headed heading body old empty = sym (append-nil old) ∙ ap (λ (text : List ℕ). old ++ under_heading heading text) (sym empty)

pub something_headed : (heading body old titled new : List ℕ) → (body ≡ [] → ⊥) → titled ≡ old ++ heading → new ≡ titled ++ body
    → new ≡ old ++ under_heading heading body
something_headed heading [] old titled new some first second = absurd (some refl)
something_headed heading (byte ∷ bytes) old titled new some first second =
    second ∙ ap (λ (front : List ℕ). front ++ byte ∷ bytes) first ∙ append_assoc old heading (byte ∷ bytes)
