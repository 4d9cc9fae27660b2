-- What is told of spacing, of a skip and of a new page is what the carriage is asked for.
use Rattle.std.specs.Prelude.{◌≡◌, ℕ, ◌≤◌, Bool, true, false, Some, None, IfSome}
use Rattle.hubs.specs.declared.hub.Hub.{Hub}
use Rattle.hubs.specs.declared.hub.Hub.TheVariants.{RS, SK, SP}
use Rattle.machine.specs.Below.carriage.Asked.{asked_by}
use Rattle.machine.specs.Below.carriage.declared.asked.Asked.{Asked}
use Rattle.machine.specs.Machine.{MachineState, closes, emits}
use Rattle.net.specs.Impulsed.{IsPicture}
use Rattle.net.specs.declared.cycle.Cycle.{Cycle}
use Rattle.net.specs.declared.cycle.Point.TheVariants.{C}
use Rattle.hubs.specs.SetupsWords.Wiring.{LeadsToEntries, Wiring}
use Rattle.explain_origins.specs.Asks.{asks, channel_of, is_of_cycles, spacing_of}

-- What wires tell of a cycle is what was asked for in it. Where wires lead to an entry from no contact, what isn't told wasn't asked for: spacing
-- is single, there is no skip, and the page stays the same.
pub record IsAskedAsTold (wiring : Wiring) (cycle : Cycle) (asked : Asked) : Type 0 where
  pub lines : IfSome (spacing_of wiring cycle) (λ lines. asked.lines ≡ lines)
  pub channel : IfSome (channel_of wiring cycle) (λ channel. asked.channel ≡ Some channel)
  pub restore : asks wiring cycle RS ≡ true → asked.restore ≡ true
  pub single :
      spacing_of wiring cycle ≡ None → is_of_cycles wiring (SP 2) ≡ true → is_of_cycles wiring (SP 3) ≡ true → asked.lines ≡ 1
  pub no_skip :
      channel_of wiring cycle ≡ None
      → ((channel : ℕ) → 1 ≤ channel → channel ≤ 12 → is_of_cycles wiring (SK channel) ≡ true) → asked.channel ≡ None
  pub same_page : asks wiring cycle RS ≡ false → is_of_cycles wiring RS ≡ true → asked.restore ≡ false

-- So it is on every panel, whatever the machine holds, by the picture of the control point.
abbrev pub CarriageIsAskedAsTold : Type 0
CarriageIsAskedAsTold =
    (wiring : Wiring) (machine : MachineState) (cycle : Cycle) (picture : Hub → Bool) → LeadsToEntries wiring
    → IsPicture wiring (emits machine cycle C) (closes machine cycle C) picture → IsAskedAsTold wiring cycle (asked_by picture)
