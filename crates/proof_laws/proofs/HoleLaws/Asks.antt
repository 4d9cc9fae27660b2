-- The exit of a cycle sends impulses to the entries to which wires lead from it.
use Rattle.std.proofs.Common.{◌≡◌, refl, ◌||◌, Bool, true, false, inl}
use Rattle.std.proofs.lemmas.Bool.{false≢true}
use Rattle.hubs.proofs.HubLemmas.{in_range}
use Rattle.hubs.specs.declared.hub.Hub.{Hub}
use Rattle.hubs.specs.declared.hub.Hub.TheVariants.{CC, HX, PX}
use Rattle.explain_ledgers.specs.LedgersWords.Ledgers.{ready}
use Rattle.machine.specs.Machine.{MachineState, closes, emits}
use Rattle.net.specs.Cycles.{level_number, ordinal_number}
use Rattle.net.specs.HubSets.{is_hub}
use Rattle.net.specs.Impulsed.{IsImpulsed, emitting, led_on}
use Rattle.net.specs.declared.cycle.Cycle.{Cycle}
use Rattle.net.specs.declared.cycle.Cycle.TheVariants.{RunIn, Card, Prog, Head}
use Rattle.net.specs.declared.cycle.Ordinal.{Ordinal}
use Rattle.net.specs.declared.cycle.Ordinal.TheVariants.{First, Second, Third}
use Rattle.net.specs.declared.cycle.Point.TheVariants.{C}
use Rattle.net.specs.declared.cycle.ProgramLevel.{ProgramLevel}
use Rattle.net.specs.declared.cycle.ProgramLevel.TheVariants.{Minor, Intermediate, Major, Final}
use Rattle.explain_origins.specs.Asks.{asks}
use Rattle.net.specs.Tells.{tells}
use Rattle.hubs.proofs.SetupsWords.WiredLemmas.{HasWire-is_wired}
use Rattle.hubs.specs.SetupsWords.Wiring.{HasWire, Wiring, is_wired}
use Rattle.proof_laws.specs.HoleLaws.Asks.{CyclesImpulseEntries}

behind : (one other : Bool) → other ≡ true → (one || other) ≡ true
behind true other is = refl
behind false other is = is

program-is : (level : ProgramLevel) (ordinal : Ordinal)
    → is_hub (PX (level_number level) (ordinal_number ordinal)) (PX (level_number level) (ordinal_number ordinal)) ≡ true
program-is Minor First = refl
program-is Minor Second = refl
program-is Minor Third = refl
program-is Intermediate First = refl
program-is Intermediate Second = refl
program-is Intermediate Third = refl
program-is Major First = refl
program-is Major Second = refl
program-is Major Third = refl
program-is Final First = refl
program-is Final Second = refl
program-is Final Third = refl

heading-is : (heading : Ordinal) → is_hub (HX (ordinal_number heading)) (HX (ordinal_number heading)) ≡ true
heading-is First = refl
heading-is Second = refl
heading-is Third = refl

-- what the program unit emits, the machine emits
program-emits : (machine : MachineState) (cycle : Cycle) (exit : Hub) → tells cycle exit ≡ true → emits machine cycle C exit ≡ true
program-emits machine cycle exit sends = behind _ (tells cycle exit) sends

module _ (wiring : Wiring) (machine : MachineState) (entry : Hub) where
  led : (cycle : Cycle) (exit : Hub) → tells cycle exit ≡ true → is_wired wiring exit entry ≡ true
      → IsImpulsed wiring (emits machine cycle C) (closes machine cycle C) entry
  led cycle exit sends wired =
      let wire : HasWire wiring exit entry = (HasWire-is_wired wiring exit entry).0 wired in
      led_on exit entry (emitting exit (in_range exit wire.number wire.numbered) (program-emits machine cycle exit sends)) (inl wire)

  by-cycle : (cycle : Cycle) → asks wiring cycle entry ≡ true → IsImpulsed wiring (emits machine cycle C) (closes machine cycle C) entry
  by-cycle RunIn asked = absurd (false≢true asked)
  by-cycle Card asked = led Card CC refl asked
  by-cycle (Prog level ordinal) asked =
      led (Prog level ordinal) (PX (level_number level) (ordinal_number ordinal)) (program-is level ordinal) asked
  by-cycle (Head heading) asked = led (Head heading) (HX (ordinal_number heading)) (heading-is heading) asked

pub cycles-impulse : CyclesImpulseEntries
cycles-impulse wiring deck passed has entry asked = by-cycle wiring (ready has.cycle has.along) entry has.cycle asked
