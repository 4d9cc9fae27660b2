use Rattle.std.proofs.Common.{◌≡◌, Bool, false, List, ap, ◌∙◌, ◌||◌, ◌⊎◌, inl, inr, sym}
use Rattle.std.proofs.Math.Bool.{or-false}
use Rattle.std.specs.List.{list_any}
use Rattle.hubs.specs.declared.hub.Hub.{Hub}
use Rattle.net.specs.HubSets.{has_hub}
use Rattle.net.specs.declared.cycle.Cycle.{Cycle}
use Rattle.net.specs.declared.cycle.Point.{Point}
use Rattle.net.specs.declared.cycle.Point.TheVariants.{C, K}
use Rattle.storage_units.specs.Storage.{StorageState, storage_emits}
use Rattle.machine.proofs.ClosedContacts.{none-of}
use Rattle.machine.proofs.storage_rows.emit_storage.Goals as goal

-- at both ends of a cycle none emits
silent : (units : List StorageState) (cycle : Cycle) (point : Point) (exit : Hub) → (point ≡ C) ⊎ (point ≡ K)
    → list_any (λ unit. storage_emits unit cycle point exit) units ≡ false
silent units cycle point exit (inl at) =
    ap (λ (p : Point). list_any (λ unit. storage_emits unit cycle p exit) units) at ∙ none-of units
silent units cycle point exit (inr at) =
    ap (λ (p : Point). list_any (λ unit. storage_emits unit cycle p exit) units) at ∙ none-of units

pub returns-in-C : goal.returns-in-C
returns-in-C c exit =
    sym
    (ap (λ (b : Bool). has_hub c.args.exits.now exit || b)
    (silent c.args.storage.now c.args.cycle c.args.point exit c.in-C.is)
    ∙ or-false (has_hub c.args.exits.now exit))
