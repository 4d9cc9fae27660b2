-- The wires that leave an impulsed hub carry an impulse.
use Rattle.std.proofs.Common.{◌≡◌, Bool, List, Result, Ok, Err, IfOk}
use Rattle.std.specs.Prelude.{Vec}
use Rattle.std.specs.List.{filter}
use Rattle.std.specs.declared.alloc.Global.{Global}
use Rattle.hubs.specs.declared.hub.Hub.{Hub}
use Rattle.machine.specs.declared.kept.KeptPoint.{KeptPoint}
use Rattle.net.specs.HubSets.{has_hub}
use Rattle.net.specs.Impulsed.{IsPicture}
use Rattle.show_drawings.specs.declared.drawings.panel_drawing.drawing.PanelWire.{PanelWire}
use Rattle.hubs.specs.SetupsWords.Wiring.{Wiring}
use Rattle.show_page.specs.CycleSteps.Live.{AreLive, leaves_any}

pub live_of : {E : Type 0} (wiring : Wiring) (point : KeptPoint) (wires : List PanelWire) (impulsed : Hub → Bool)
    (result : Result (Vec PanelWire Global) E) → IsPicture wiring (has_hub point.exits) (has_hub point.contacts) impulsed
    → IfOk result (λ live. live.items ≡ filter (leaves_any impulsed) wires)
    → IfOk result (λ live. AreLive wiring point wires live.items)
live_of wiring point wires impulsed (Ok live) exact are = record { impulsed = impulsed; exact = exact; are = are }
live_of wiring point wires impulsed (Err e) exact are = tt
