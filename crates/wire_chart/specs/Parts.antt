-- The lines of a setup's stops, jacks and wires as a text gains them, without the first line, the form and END of a wiring chart.
use Rattle.std.specs.Prelude.{◌≡◌, ℕ, List, ◌++◌}
use Rattle.hubs.specs.SetupsWords.Wiring.{Wiring}
pub use Rattle.wire_chart.specs.WrittenText.{ArePartsOf}
use Rattle.wiring_text.specs.declared.statement.Version.{Version}

-- a text gains the lines of a setup
pub record GainsParts (version : Version) (wiring : Wiring) (old new : List ℕ) : Type 0 where
  pub parts : List ℕ
  pub are : ArePartsOf version wiring parts
  pub gained : new ≡ old ++ parts
