-- Which wires carry an impulse at a point of a cycle: those that leave an impulsed hub.
use Rattle.std.specs.Prelude.{◌≡◌, Bool, List}
use Rattle.std.specs.List.{filter}
use Rattle.hubs.specs.declared.hub.Hub.{Hub}
use Rattle.machine.specs.declared.kept.KeptPoint.{KeptPoint}
use Rattle.net.specs.HubSets.{has_hub}
use Rattle.net.specs.Impulsed.{IsPicture}
use Rattle.show_drawings.specs.declared.drawings.panel_drawing.drawing.PanelWire.{PanelWire}
use Rattle.hubs.specs.SetupsWords.Wiring.{Wiring}

-- whether the hub that a wire leaves is in a picture
abbrev pub leaves_any : (Hub → Bool) → PanelWire → Bool
leaves_any impulsed wire = impulsed wire.exit

-- Of some wires those that carry an impulse at a point: its exits emitted, and its contacts were closed.
pub record AreLive (wiring : Wiring) (point : KeptPoint) (wires live : List PanelWire) : Type 0 where
  pub impulsed : Hub → Bool
  pub exact : IsPicture wiring (has_hub point.exits) (has_hub point.contacts) impulsed
  pub are : live ≡ filter (leaves_any impulsed) wires
