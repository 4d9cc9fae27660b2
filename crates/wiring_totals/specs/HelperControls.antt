-- A helper of the code: what all groups of a counter are told alike.
use Rattle.hubs.specs.declared.hub.Group.{Group}
use Rattle.hubs.specs.declared.hub.Hub.{Hub}
use Rattle.hubs.specs.declared.hub.Hub.TheVariants.{MI, PL, RO}
use Rattle.wiring_totals.specs.declared.counter.Control.{Control}
use Rattle.wiring_totals.specs.declared.counter.Control.TheVariants as told

-- the entry of a group that takes a control
abbrev pub control_entry : Control → Group → Hub
control_entry told.Plus = PL
control_entry told.Minus = MI
control_entry told.ReadOut = RO
