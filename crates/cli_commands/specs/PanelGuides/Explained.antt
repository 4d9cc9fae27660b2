-- The explanation of a wheel of a line that the run of a text and a deck prints, from the bytes of both; or why there is none.
use Rattle.std.specs.Prelude.{◌≡◌, ◌<◌, ◌⊎◌, ℕ, List, Option, String, false, true}
use Rattle.std.specs.declared.alloc.Global.{Global}
use Rattle.cli_commands.specs.CommandsWords.Refusals.{RefusesReplay, RefusesRun}
use Rattle.explain_words.specs.ExplanationText.ExplanationTexts.{IsTextOf}
use Rattle.explain_wheels.specs.ExplanationsWords.PlacedInRun.{PrintsNoneAt}
use Rattle.explain_wheels.specs.declared.explanations.explanation.Explanation.{Explanation}
use Rattle.fault_lines.specs.declared.faults.fault.Fault.{Fault}
use Rattle.readback_charts.specs.KnownCharts.{KnownChart}
use Rattle.cli_commands.specs.PanelGuides.Known.{AreAsked, IsKnownRun}
use Rattle.hubs.specs.SetupsWords.Wiring.{Wiring}
use Rattle.cli_commands.specs.PanelGuides.Panels.{IsRunOf, is_wiring_text}
use Rattle.cli_commands.specs.declared.panel_guides.place.Place.{Place}
use Rattle.cli_commands.specs.declared.panel_guides.unexplained.Unexplained.{Unexplained}
use Rattle.cli_commands.specs.declared.panel_guides.unexplained.Unexplained.TheVariants as why

-- on a panel, over cards: the text tells this explanation of the wheel of the line that the machine prints at this place
abbrev pub ExplainsBy : Wiring → List (String Global × Wiring) → List (List ℕ) → Place → Explanation → List ℕ → Type 0
ExplainsBy wiring asked cards place told = IsTextOf wiring asked cards place.page place.line place.wheel told

-- the text explains the wheel at this place of the run of a text and a deck, and names who asks for each way's wires
pub record IsExplained (text deck : List ℕ) (place : Place) (answer : List ℕ) : Type 0 where
  pub wiring : Wiring
  pub cards : List (List ℕ)
  pub known : Option KnownChart
  pub run : IsKnownRun text deck wiring cards known
  pub asked : List (String Global × Wiring)
  pub are_asked : AreAsked known asked
  pub told : Explanation
  pub explains : ExplainsBy wiring asked cards place told answer

-- there is no such wheel
abbrev pub IsNoWheel : ℕ → Type 0
IsNoWheel wheel = (wheel < 1) ⊎ (120 < wheel)

-- on a panel, over cards: there is no such wheel; else no such line is printed
pub data LacksPlace (wiring : Wiring) (cards : List (List ℕ)) (place : Place) (told : Unexplained) : Type 0 where
  no_wheel : IsNoWheel place.wheel → told ≡ why.NoSuchWheel place.wheel → LacksPlace wiring cards place told
  no_line : (IsNoWheel place.wheel → ⊥) → PrintsNoneAt wiring cards place.page place.line
      → told ≡ why.NoSuchLine place.page place.line → LacksPlace wiring cards place told

-- a wiring chart is refused as by a replay, a planning chart as by a run
abbrev pub RefusesTexts : (text deck : List ℕ) → Fault → Type 0
RefusesTexts text deck fault = ((is_wiring_text text ≡ true) × RefusesReplay text deck fault)
    ⊎ ((is_wiring_text text ≡ false) × RefusesRun text deck fault)

-- Why nothing is explained: the fault of the text or of the deck; else there is no such place of the run.
pub data IsUnexplained (text deck : List ℕ) (place : Place) (told : Unexplained) : Type 0 where
  texts : (fault : Fault) → RefusesTexts text deck fault → told ≡ why.Failed fault → IsUnexplained text deck place told
  nowhere : (wiring : Wiring) (cards : List (List ℕ)) → IsRunOf text deck cards wiring → LacksPlace wiring cards place told
      → IsUnexplained text deck place told
