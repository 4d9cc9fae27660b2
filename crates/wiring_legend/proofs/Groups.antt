-- A legend that gains the group of the next line.
use Rattle.std.proofs.Common.{◌≡◌, ℕ, ◌+◌, List, [], ◌++◌, length, Some, slice_get, sym, ap, ◌∙◌, subst, append_assoc}
use Rattle.hubs.specs.SetupsWords.Wiring.{Wiring}
use Rattle.wire_chart.specs.WrittenText.{ended}
use Rattle.wire_gen.specs.OfLine.{IsSetupOfLine}
use Rattle.wiring_legend.specs.Rows.{row_of, sentence}
use Rattle.chart_lines.specs.declared.charts.chart.Line.{Line}
use Rattle.chart_plans.specs.PlansWords.Plans.{Lists}
use Rattle.wiring_text.specs.declared.statement.Version.{Version}
use Rattle.wiring_legend.specs.Helper.{GainsGroup, IsUnder}
use Rattle.wiring_legend.specs.Legend.{AreGroups, none, next, form_part, heading}

pub groups-more : (version : Version) (lines : List Line) (plan : Lists) (source : List ℕ) (place : ℕ) (line : Line)
    (old new : List ℕ) → AreGroups version lines plan source place old → slice_get lines place ≡ Some line
    → GainsGroup version lines plan source line old new → AreGroups version lines plan source (place + 1) new
groups-more version lines plan source place line old new before there gains =
    let P : List ℕ → Type 0 = AreGroups version lines plan source (place + 1) in
    subst P (sym gains.gained) (next place line old gains.group before there gains.is_group)

pub groups-all : (version : Version) (lines : List Line) (plan : Lists) (source : List ℕ) (place : ℕ) (text : List ℕ)
    → AreGroups version lines plan source place text → place ≡ length lines
    → AreGroups version lines plan source (length lines) text
groups-all version lines plan source place text groups all =
    let P : ℕ → Type 0 = λ n. AreGroups version lines plan source n text in
    subst P all groups

-- no group yet
pub groups-none : (version : Version) (lines : List Line) (plan : Lists) (source text : List ℕ) → text ≡ []
    → AreGroups version lines plan source 0 text
groups-none version lines plan source text empty =
    let P : List ℕ → Type 0 = AreGroups version lines plan source 0 in subst P (sym empty) none

-- the heading, and what stands under it
pub group-gained : (version : Version) (lines : List Line) (plan : Lists) (source : List ℕ) (line : Line) (setup : Wiring)
    (old headed text new : List ℕ) → IsSetupOfLine lines plan line setup → headed ≡ old ++ ended (heading source line.number)
    → IsUnder version lines line.statement setup text → new ≡ headed ++ text → GainsGroup version lines plan source line old new
group-gained version lines plan source line setup old headed text new asked begun under last = record {
  group = ended (heading source line.number) ++ text;
  is_group = record {
    setup = setup;
    asked = asked;
    parts = under.parts;
    are = under.are;
    spelled = ap (λ (l : List ℕ). ended (heading source line.number) ++ l) under.spelled
        ∙ apart (ended (heading source line.number)) (ended (sentence (row_of lines line.statement))) (form_part line.statement setup.tape)
        under.parts (ended []);
  };
  gained = last ∙ ap (λ (l : List ℕ). l ++ text) begun ∙ append_assoc old (ended (heading source line.number)) text;
}
  where
    apart : (h a b c d : List ℕ) → h ++ (a ++ b ++ c ++ d) ≡ h ++ a ++ b ++ c ++ d
    apart h a b c d = simp append_assoc
