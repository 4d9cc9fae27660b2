-- Laws of cycles as a whole, for every setup of the panel.
use Rattle.std.specs.Prelude.{◌≡◌, ◌↔◌, ℕ, ◌≤◌, Bool, List, Option, map}
use Rattle.std.specs.List.{range_with_len}
use Rattle.card_code.specs.declared.row.Row.{Row as CardRow}
use Rattle.machine.specs.Below.page_text.declared.placed_lines.placed_line.PlacedLine.{PlacedLine}
use Rattle.hubs.specs.SetupsWords.Wiring.{Wiring}
use Rattle.hubs.specs.declared.hub.Group.{Group}
use Rattle.hubs.specs.declared.hub.Hub.{Hub}
use Rattle.net.specs.Impulsed.{IsImpulsed}
use Rattle.net.specs.declared.cycle.Cycle.{Cycle}
use Rattle.net.specs.declared.cycle.Point.{Point}
use Rattle.machine.specs.Cycles.{CycleRun}
use Rattle.machine.specs.Feeds.{Feeds}
use Rattle.machine.specs.Machine.{MachineState, machine_at_start}
use Rattle.proof_cycles.specs.WholeCycles.Between.{IsBetween, IsReady, IsSetUp}
use Rattle.proof_cycles.specs.WholeCycles.OneContactDeep.{AreCarriesOpen, IsOneContactDeep, IsWithinOneContact, NoCommonEmits, SourcesAloneEmit}
use Rattle.proof_cycles.specs.WholeCycles.Units.{AreAlone, IsGroup, IsGroupByName, IsStorageByNumber, UnitsStart}
use Rattle.proof_cycles.specs.WholeCycles.WholeCycles.{WholeCycle, control_emits, row_emits, closing_emits, wheel_received, wheels_after}

-- A cycle of a machine between cycles is a whole cycle.
abbrev pub CyclesAreWhole : Type 0
CyclesAreWhole =
    (wiring : Wiring) (cycle : Cycle) (old new : MachineState)
    → IsBetween old → CycleRun wiring cycle old new → WholeCycle wiring cycle old new

-- A machine starts between cycles, and is between cycles after each of its cycles.
pub record MachinesStayBetween : Type 0 where
  pub start : (wiring : Wiring) → IsBetween (machine_at_start wiring)
  pub kept :
      (wiring : Wiring) (cycle : Cycle) (old new : MachineState)
      → IsBetween old → CycleRun wiring cycle old new → IsBetween new

-- A machine starts ready, and is ready after each of its cycles and after each feed.
pub record MachinesStayReady : Type 0 where
  pub start : (wiring : Wiring) → IsReady wiring (machine_at_start wiring)
  pub kept :
      (wiring : Wiring) (cycle : Cycle) (old new : MachineState)
      → IsReady wiring old → CycleRun wiring cycle old new → IsReady wiring new
  pub feeds :
      (wiring : Wiring) (old : MachineState) (next : Option (List ℕ)) (new : MachineState) (lines : List PlacedLine)
      → IsReady wiring old → Feeds wiring old next new lines → IsReady wiring new

-- Where a machine is set up, its wheels have the jacks of its setup.
abbrev pub WheelsHaveTheirJacks : Type 0
WheelsHaveTheirJacks =
    (wiring : Wiring) (machine : MachineState) (pictures : Point → Hub → Bool)
    → IsSetUp wiring machine
    → wheels_after pictures machine.wheels.wheels ≡ map (wheel_received wiring pictures) (range_with_len 1 120)

-- Where no impulse passes two contacts, no common hub emits and no carry passes, the impulsed hubs are those within one contact.
abbrev pub ContactsAreOneDeep : Type 0
ContactsAreOneDeep =
    (wiring : Wiring) (exits closed : Hub → Bool) (hub : Hub)
    → IsOneContactDeep wiring → NoCommonEmits exits → AreCarriesOpen closed
    → IsImpulsed wiring exits closed hub ↔ IsWithinOneContact wiring exits closed hub

-- In each cycle units emit at exits of theirs alone, and at no common hub.
pub record CyclesEmitAtSources : Type 0 where
  pub control : (cycle : Cycle) → SourcesAloneEmit (control_emits cycle)
  pub rows :
      (old : MachineState) (pictures : Point → Hub → Bool) (cycle : Cycle) (row : CardRow)
      → SourcesAloneEmit (row_emits old pictures cycle row)
  pub closing : (pictures : Point → Hub → Bool) (cycle : Cycle) → SourcesAloneEmit (closing_emits pictures cycle)
  pub no_common : (exits : Hub → Bool) → SourcesAloneEmit exits → NoCommonEmits exits

-- Between cycles each unit is told by its name alone.
pub record UnitsAreByName : Type 0 where
  pub groups : (machine : MachineState) (name : Group) → IsBetween machine → IsGroup name → IsGroupByName machine name
  pub storage :
      (machine : MachineState) (number : ℕ) → IsBetween machine → 1 ≤ number → number ≤ 4
      → IsStorageByNumber machine number
  pub others : (machine : MachineState) → AreAlone machine
  pub start : (wiring : Wiring) → UnitsStart wiring
