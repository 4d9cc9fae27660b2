-- The control point: the exit that tells of the cycle is all that emits, and groups, storage units and the carriage are all that senses.
-- The closing point: comparing and groups are all that emits, and groups and the program unit all that senses.
use Rattle.std.proofs.Common.{◌≡◌, ◌∙◌, ◌||◌, ℕ, Bool, true, false, List, get_or, map, refl, sym, subst}
use Rattle.std.proofs.lemmas.List.{map-id}
use Rattle.carriage.specs.Carriage.{carriage_sensed}
use Rattle.counters.specs.Counters.{Counter, counter_sensed}
use Rattle.hubs.specs.declared.hub.Hub.{Hub}
use Rattle.hubs.specs.declared.hub.Hub.TheVariants.{CO}
use Rattle.net.proofs.TellingLemmas.{in_row-none}
use Rattle.net.specs.HubSets.{is_bit, is_in_row}
use Rattle.net.specs.Orders.{AreOrdersOf, AreToldBy}
use Rattle.net.specs.Tells.{tells}
use Rattle.net.specs.declared.cycle.Cycle.{Cycle}
use Rattle.net.specs.declared.cycle.Cycle.TheVariants.{RunIn, Card, Prog, Head}
use Rattle.net.specs.declared.cycle.Point.TheVariants.{C, K}
use Rattle.net.specs.declared.orders.Orders.{Orders}
use Rattle.program_unit.specs.Program.{ProgramState, program_sensed}
use Rattle.selectors.specs.Pilots.{PilotStates, pilots_sensed}
use Rattle.hubs.specs.SetupsWords.Wiring.{Wiring}
use Rattle.stations.specs.Comparing.{Compared, comparing_emits, comparing_sensed}
use Rattle.stations.specs.Stations.{StationCards, stations_emits}
use Rattle.storage_units.specs.Storage.{storage_sensed}
use Rattle.machine.specs.Cycles.{PointStep}
use Rattle.machine.specs.Fields.{AreInUnitOrder}
use Rattle.machine.specs.Machine.{MachineState, closes, emits, sensed}
use Rattle.machine.specs.Steady.{carries_of}
use Rattle.machine.proofs.CarryExits.{carries-row}
use Rattle.machine.proofs.ClosedContacts.{none-of}
use Rattle.machine.proofs.Pictures.{IsPicture-same}
use Rattle.machine.proofs.Rest.{first_group}

comparing-silent : (compared : Compared) (cycle : Cycle) (hub : Hub) → comparing_emits compared cycle C hub ≡ false
comparing-silent compared RunIn hub = refl
comparing-silent compared other hub = refl

stations-silent : (cards : StationCards) (cycle : Cycle) (hub : Hub) → stations_emits cards cycle C hub ≡ false
stations-silent cards RunIn hub = refl
stations-silent cards other hub = refl

-- what is emitted there
pub emits-told : (machine : MachineState) (cycle : Cycle) (hub : Hub) → emits machine cycle C hub ≡ tells cycle hub
emits-told machine cycle hub =
    let stations = stations-silent machine.stations cycle hub in
    let comparing = comparing-silent machine.comparing cycle hub in
    let groups = none-of machine.groups in
    let storage = none-of machine.storage in
    λ i. stations i || comparing i || groups i || storage i || false || false || false || false || false || false || tells cycle hub

-- comparing, pilots and the program unit sense nothing there, and the first two nothing at the closing point either
comparing-stays : (compared : Compared) (cycle : Cycle) (picture : Hub → Bool)
    → (compared ≡ comparing_sensed compared cycle C picture) × (compared ≡ comparing_sensed compared cycle K picture)
comparing-stays compared RunIn picture = (refl, refl)
comparing-stays compared other picture = (refl, refl)

pilots-stay : (pilots : PilotStates) (cycle : Cycle) (picture : Hub → Bool)
    → (pilots ≡ pilots_sensed pilots cycle C picture) × (pilots ≡ pilots_sensed pilots cycle K picture)
pilots-stay pilots RunIn picture = (refl, refl)
pilots-stay pilots Card picture = (refl, refl)
pilots-stay pilots (Prog level ordinal) picture = (refl, refl)
pilots-stay pilots (Head heading) picture = (refl, refl)

program-stays : (program : ProgramState) (cycle : Cycle) (picture : Hub → Bool) → program ≡ program_sensed program cycle C picture
program-stays program RunIn picture = refl
program-stays program other picture = refl

-- so this is the machine that has sensed the picture
pub control-sensed : (old new : MachineState) (cycle : Cycle) (picture : Hub → Bool) → new.stations ≡ old.stations
    → new.comparing ≡ old.comparing → new.groups ≡ map (λ group. counter_sensed group cycle C picture) old.groups
    → new.storage ≡ map (λ unit. storage_sensed unit cycle C picture) old.storage → new.pilots ≡ old.pilots
    → new.indicate ≡ old.indicate → new.splits ≡ old.splits → new.emitters ≡ old.emitters → new.wheels ≡ old.wheels
    → new.carriage ≡ carriage_sensed old.carriage cycle C picture → new.program ≡ old.program → new ≡ sensed old cycle C picture
control-sensed old new cycle picture stations comparing groups storage pilots indicate splits emitters wheels carriage program =
    let compared = comparing ∙ (comparing-stays old.comparing cycle picture).0 in
    let piloted = pilots ∙ (pilots-stay old.pilots cycle picture).0 in
    let programmed = program ∙ program-stays old.program cycle picture in
    λ i. record {
      stations = stations i;
      comparing = compared i;
      groups = groups i;
      storage = storage i;
      pilots = piloted i;
      indicate = indicate i;
      splits = splits i;
      emitters = emitters i;
      wheels = wheels i;
      carriage = carriage i;
      program = programmed i;
    }

-- a machine that has done what is told there has passed the point
pub PointStep-told : (wiring : Wiring) (cycle : Cycle) (old new : MachineState) (orders : Orders)
    → AreToldBy wiring cycle (closes old cycle C) orders
    → ((picture : Hub → Bool) → AreOrdersOf picture orders → new ≡ sensed old cycle C picture) → PointStep wiring cycle C old new
PointStep-told wiring cycle old new orders told obeyed = record {
  picture = told.picture;
  is_picture =
      IsPicture-same wiring (tells cycle) (emits old cycle C) (closes old cycle C) (closes old cycle C) told.picture
      (λ hub. sym (emits-told old cycle hub)) (λ hub. refl) told.is_picture;
  is_new = obeyed told.picture told.are_orders;
}

-- the orders of one set of closed contacts are those of an equal one
pub AreToldBy-same : (wiring : Wiring) (cycle : Cycle) (closed also_closed : Hub → Bool) (orders : Orders)
    → ((hub : Hub) → closed hub ≡ also_closed hub) → AreToldBy wiring cycle closed orders → AreToldBy wiring cycle also_closed orders
AreToldBy-same wiring cycle closed also_closed orders same told =
    let are : ◌≡◌ {A = Hub → Bool} closed also_closed = λ i hub. same hub i in
    subst (λ (c : Hub → Bool). AreToldBy wiring cycle c orders) are told

-- stations, storage units and emitters emit nothing at the closing point
closing-stations : (cards : StationCards) (cycle : Cycle) (hub : Hub) → stations_emits cards cycle K hub ≡ false
closing-stations cards RunIn hub = refl
closing-stations cards other hub = refl

-- so comparing and the carries are all that emits there
none-more : (a b : Bool) → (a || b) ≡ (a || b || false || false || false || false || false || false || false || false)
none-more true b = refl
none-more false true = refl
none-more false false = refl

pub closing-emits : (machine : MachineState) (cycle : Cycle) (carrying : ℕ) (hub : Hub) → AreInUnitOrder machine.groups
    → ((k : ℕ) → is_bit carrying k ≡ get_or (carries_of machine.groups) k false)
    → (comparing_emits machine.comparing cycle K hub || is_in_row (CO first_group) carrying hub) ≡ emits machine cycle K hub
closing-emits machine cycle carrying hub ordered are =
    let stations = sym (closing-stations machine.stations cycle hub) in
    let comparing = comparing_emits machine.comparing cycle K hub in
    let groups = carries-row carrying machine.groups cycle hub ordered are in
    let storage = sym (none-of machine.storage) in
    none-more comparing (is_in_row (CO first_group) carrying hub)
    ∙ (λ i. stations i || comparing || groups i || storage i || false || false || false || false || false || false || false)

-- and nothing emits where they don't
pub closing-silent : (machine : MachineState) (cycle : Cycle) (carrying : ℕ) (hub : Hub) → AreInUnitOrder machine.groups
    → ((k : ℕ) → is_bit carrying k ≡ get_or (carries_of machine.groups) k false) → carrying ≡ 0
    → comparing_emits machine.comparing cycle K hub ≡ false → emits machine cycle K hub ≡ false
closing-silent machine cycle carrying hub ordered are none silent =
    sym (closing-emits machine cycle carrying hub ordered are)
    ∙ (λ i. silent i || is_in_row (CO first_group) (none i) hub) ∙ in_row-none (CO first_group) hub

-- counter groups and the program unit are all that senses at the closing point
pub closing-sensed : (machine : MachineState) (cycle : Cycle) (picture : Hub → Bool) (groups : List Counter) (program : ProgramState)
    → groups ≡ map (λ group. counter_sensed group cycle K picture) machine.groups → program ≡ program_sensed machine.program cycle K picture
    → record machine { groups = groups; program = program } ≡ sensed machine cycle K picture
closing-sensed machine cycle picture groups program counted programmed = λ i.
    record machine {
      comparing = (comparing-stays machine.comparing cycle picture).1 i;
      groups = counted i;
      storage = sym (map-id machine.storage) i;
      pilots = (pilots-stay machine.pilots cycle picture).1 i;
      program = programmed i;
    }
