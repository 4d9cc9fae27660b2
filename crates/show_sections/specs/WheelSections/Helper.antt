-- Helper words of the code.
use Rattle.std.specs.Prelude.{◌≡◌, ℕ, List, ◌++◌, String}
use Rattle.std.specs.String.{string_bytes}
use Rattle.std.specs.declared.alloc.Global.{Global}
use Rattle.page_text.specs.declared.placed_lines.placed_line.PlacedLine.{PlacedLine}
use Rattle.hubs.specs.SetupsWords.Wiring.{Wiring}
use Rattle.explain_wheels.specs.ExplanationsWords.PlacedInRun.{IsFound}
use Rattle.explain_wheels.specs.ExplanationsWords.Rows.{AreRowWays}
use Rattle.explain_wheels.specs.declared.explanations.explanation.LineWays.{LineWays}
use Rattle.explain_words.specs.ExplanationText.ExplanationTexts.{IsTextOf}
use Rattle.show_sections.specs.WheelSections.ToldWheels.{AreTold, WheelPlace}
use Rattle.explain_words.specs.declared.explanation_text.text.ToldWheel.{ToldWheel}

-- the ways are those of the printed line, in the run over the deck
pub record AreWaysOfLine (wiring : Wiring) (deck : List (List ℕ)) (placed : PlacedLine) (line : LineWays) : Type 0 where
  pub found : IsFound wiring deck line.found
  pub page : line.found.kept.line.page ≡ placed.page
  pub line_is : line.found.kept.line.line ≡ placed.line
  pub ways : AreRowWays wiring line.found.kept.points 12 line.ways.items

-- what is told is of the wheel of the line
abbrev pub IsToldOf : Wiring → List (String Global × Wiring) → List (List ℕ) → PlacedLine → (wheel : ℕ) → ToldWheel → Type 0
IsToldOf wiring asked deck placed wheel told =
    IsTextOf wiring asked deck placed.page placed.line wheel told.why (string_bytes told.words)

-- a list gains what is told of the wheels at these places
pub record GainsTold (wiring : Wiring) (asked : List (String Global × Wiring)) (deck : List (List ℕ)) (places : List WheelPlace)
    (old new : List ToldWheel) : Type 0 where
  pub told : List ToldWheel
  pub are : AreTold wiring asked deck places told
  pub gained : new ≡ old ++ told
