-- What is explained, and why something isn't.
use Rattle.std.proofs.Common.{◌≡◌, ◌≢◌, ◌∙◌, ap, sym, subst, refl, ℕ, Bool, true, false, List, Option, None, Some, Result, Ok, Err}
use Rattle.std.proofs.lemmas.Bool.{false≢true}
use Rattle.std.specs.Prelude.{String}
use Rattle.std.specs.declared.alloc.Global.{Global}
use Rattle.explain_wheels.specs.ExplanationsWords.PlacedInRun.{PrintsNoneAt}
use Rattle.explain_wheels.specs.declared.explanations.explanation.Explanation.{Explanation}
use Rattle.explain_wheels.specs.declared.explanations.refusal.Refusal.{Refusal}
use Rattle.explain_wheels.specs.declared.explanations.refusal.Refusal.TheVariants as refusal
use Rattle.fault_lines.specs.declared.faults.fault.Fault.{Fault}
use Rattle.fault_lines.specs.declared.faults.fault.Fault.TheVariants as fault
use Rattle.readback_charts.specs.KnownCharts.{IsReadOff, KnownChart}
use Rattle.cli_commands.specs.PanelGuides.Known.{IsServed}
use Rattle.cli_commands.specs.PanelGuides.TextRuns.{IsTextRun, cards_of, setup_of}
use Rattle.cli_commands.specs.declared.panel_guides.text_runs.TextRun.{TextRun}
use Rattle.hubs.specs.SetupsWords.Wiring.{Wiring}
use Rattle.cli_commands.specs.PanelGuides.Explained.{ExplainsBy, IsNoWheel, IsUnexplained, LacksPlace, RefusesTexts, no_line, no_wheel, nowhere, texts}
use Rattle.cli_commands.specs.declared.panel_guides.place.Place.{Place}
use Rattle.cli_commands.specs.declared.panel_guides.unexplained.Unexplained.{Unexplained}
use Rattle.cli_commands.specs.declared.panel_guides.unexplained.Unexplained.TheVariants as why

-- a refusal, as what a call answers
abbrev refused_by : (X : Type 0) → Refusal → Result X Refusal
refused_by X met = Err met

-- what is told, as what a call answers
abbrev answered : (X : Type 0) → X → Result X Refusal
answered X told = Ok told

-- whether there is no such wheel, by what is refused
abbrev says_no_wheel : {X : Type 0} → Result X Refusal → Bool
says_no_wheel (Err refusal.NoSuchWheel) = true
says_no_wheel other = false

-- what is told of a refusal is a place that isn't there
pub lacks_place : {X : Type 0} (met : Refusal) (wiring : Wiring) (cards : List (List ℕ)) (place : Place) (told : Unexplained)
    (wheel : ℕ) → wheel ≡ place.wheel
    → (IsNoWheel wheel → refused_by X met ≡ refused_by X refusal.NoSuchWheel)
    → (refused_by X met ≡ refused_by X refusal.NoSuchWheel → IsNoWheel wheel)
    → (refused_by X met ≡ refused_by X refusal.NoSuchLine → PrintsNoneAt wiring cards place.page place.line)
    → (met ≡ refusal.NoSuchWheel → told ≡ why.NoSuchWheel place.wheel)
    → (met ≡ refusal.NoSuchLine → told ≡ why.NoSuchLine place.page place.line)
    → (met ≡ refusal.Memory → told ≡ why.Failed fault.Memory) → told ≢ why.Failed fault.Memory → LacksPlace wiring cards place told
lacks_place refusal.NoSuchLine wiring cards place told wheel same denies denied none of_wheel of_line of_memory not_memory =
    no_line (λ no_such. absurd (false≢true (ap says_no_wheel (denies (subst IsNoWheel (sym same) no_such))))) (none refl) (of_line refl)
lacks_place refusal.NoSuchWheel wiring cards place told wheel same denies denied none of_wheel of_line of_memory not_memory =
    no_wheel (subst IsNoWheel same (denied refl)) (of_wheel refl)
lacks_place refusal.Memory wiring cards place told wheel same denies denied none of_wheel of_line of_memory not_memory =
    absurd (not_memory (of_memory refl))

-- there is a wheel of which something is told
pub is_wheel : {X : Type 0} (told : X) (wheel its : ℕ) → wheel ≡ its → (IsNoWheel wheel → answered X told ≡ refused_by X refusal.NoSuchWheel)
    → ¬ IsNoWheel its
is_wheel told wheel its same denies no_such =
    false≢true (ap says_no_wheel (denies (subst IsNoWheel (sym same) no_such)))

-- what is told of the texts
pub texts_refused : (text deck : List ℕ) (place : Place) (met : Fault) (told : Unexplained)
    → (met ≢ fault.Memory → RefusesTexts text deck met) → told ≡ why.Failed met → told ≢ why.Failed fault.Memory
    → IsUnexplained text deck place told
texts_refused text deck place met told refuses same not_memory =
    texts met (refuses (λ is. not_memory (same ∙ ap why.Failed is))) same

-- what a chart that is read off a panel says of the panel is served
pub read_serves : (setup : Wiring) (known : Option KnownChart) → IsReadOff setup known → IsServed known
read_serves setup None read = tt
read_serves setup (Some chart) read = read.wired.wired.wired.planned

-- what lacks on the panel of a run is told of the texts that give it
pub lacking_in_run : (text deck : List ℕ) (place : Place) (run : TextRun) (setup : Wiring) (cards : List (List ℕ)) (told : Unexplained)
    → IsTextRun text deck run → setup ≡ setup_of run → cards ≡ cards_of run
    → (told ≢ why.Failed fault.Memory → LacksPlace setup cards place told) → told ≢ why.Failed fault.Memory
    → IsUnexplained text deck place told
lacking_in_run text deck place run setup cards told is same_setup same_cards lacks not_memory =
    nowhere (setup_of run) (cards_of run) is.is.run
    (subst (λ (of : Wiring). LacksPlace of (cards_of run) place told) same_setup
    (subst (λ (of : List (List ℕ)). LacksPlace setup of place told) same_cards (lacks not_memory)))

-- what is explained on its panel is explained on the panel of the run
pub explains_in_run : (run : TextRun) (setup : Wiring) (cards : List (List ℕ)) (given asked : List (String Global × Wiring)) (place : Place)
    (told : Explanation) (answer : List ℕ) → setup ≡ setup_of run → cards ≡ cards_of run → given ≡ asked
    → ExplainsBy setup given cards place told answer → ExplainsBy (setup_of run) asked (cards_of run) place told answer
explains_in_run run setup cards given asked place told answer same_setup same_cards same_asked explains =
    subst (λ (of : Wiring). ExplainsBy of asked (cards_of run) place told answer) same_setup
    (subst (λ (of : List (List ℕ)). ExplainsBy setup asked of place told answer) same_cards
    (subst (λ (of : List (String Global × Wiring)). ExplainsBy setup of cards place told answer) same_asked explains))
