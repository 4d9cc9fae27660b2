-- Helper words of the code: what a text gains while the drawing is written.
use Rattle.std.specs.Prelude.{◌≡◌, ℕ, List, ◌++◌, Some, length, map}
use Rattle.std.specs.List.{range_with_len}
use Rattle.hubs.specs.Hubs.{number_of}
use Rattle.hubs.specs.declared.hub.Hub.{Hub}
use Rattle.show_drawings.specs.MarkupWords.Pieces.{numbered_words}
use Rattle.show_drawings.specs.DrawingsWords.PanelDrawing.Drawing.{IsDrawing}
use Rattle.show_drawings.specs.declared.drawings.panel_drawing.drawing.PanelWire.{PanelWire}

-- words for the hubs with the numbers up to one
pub record GainsHubs (word : ℕ → Hub → List ℕ) (last : ℕ) (old new : List ℕ) : Type 0 where
  pub hubs : List Hub
  pub long : length hubs ≡ last
  pub all : map number_of hubs ≡ map (λ number. Some number) (range_with_len 1 last)
  pub gained : new ≡ old ++ numbered_words word 1 hubs

-- the drawing of some wires
pub record GainsDrawing (wires : List PanelWire) (old new : List ℕ) : Type 0 where
  pub drawing : List ℕ
  pub is : IsDrawing wires drawing
  pub gained : new ≡ old ++ drawing
