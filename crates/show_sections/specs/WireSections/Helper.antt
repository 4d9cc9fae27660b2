-- Helper word of the code: a text gains the elements of wires and hubs.
use Rattle.std.specs.Prelude.{◌≡◌, ℕ, List, ◌++◌}
use Rattle.show_drawings.specs.declared.drawings.panel_drawing.drawing.PanelWire.{PanelWire}
use Rattle.show_links.specs.declared.sum_places.places.SumPlace.{SumPlace}
use Rattle.explain_words.specs.declared.explanation_text.text.ToldWheel.{ToldWheel}
use Rattle.show_sections.specs.WireSections.Sections.{AreWireSections}

pub record GainsWireSections (wires : List PanelWire) (told : List ToldWheel) (sums : List SumPlace) (old new : List ℕ) : Type 0 where
  pub text : List ℕ
  pub are : AreWireSections wires told sums text
  pub gained : new ≡ old ++ text
