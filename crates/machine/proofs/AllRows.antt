-- The points of the rows, all at once: what is emitted, what is sensed, and that this is what they do one by one.
use Rattle.std.proofs.Common.{◌≡◌, ◌≢◌, ◌∙◌, refl, sym, ap, ℕ, suc, ◌+◌, ◌==◌, ◌&&◌, ◌||◌, Bool, true, false, List, [], ◌∷◌, map, length, Option, Some, None, subst}
use Rattle.std.specs.List.{list_any}
use Rattle.card_code.specs.Rows.{passing_place, row_number, rows}
use Rattle.card_code.specs.declared.row.Row.{Row as CardRow}
use Rattle.card_code.specs.declared.row.Row.TheVariants as row
use Rattle.counters.specs.Counters.{Counter, counter_emits, counter_sensed, shows}
use Rattle.program_unit.specs.Program.{ProgramState, program_sensed}
use Rattle.selectors.specs.Pilots.{pilots_sensed}
use Rattle.print_unit.specs.Wheels.{collected, wheel_sensed, wheels_sensed}
use Rattle.print_unit.specs.ZeroControl.{Wheel}
use Rattle.hubs.specs.SetupsWords.Wiring.{Wiring}
use Rattle.hubs.specs.Hubs.{is_hub_in_range}
use Rattle.hubs.specs.declared.hub.Group.{Group}
use Rattle.hubs.specs.declared.hub.Hub.{Hub}
use Rattle.hubs.specs.declared.hub.Hub.TheVariants.{BAC, BAN, BAT, CI, CO, CSD, CSE, CSZ, EM, GX, IE, IX, PIC, PIN, PIT, SX, W, CA, CB, GE, SE, PIX}
use Rattle.net.proofs.Rows.{is_hub-same}
use Rattle.net.specs.HubSets.{has_hub, is_hub}
use Rattle.net.specs.Impulsed.{IsPicture}
use Rattle.net.specs.Cycles.{emitter_of}
use Rattle.net.specs.HubRows.{has_row_at}
use Rattle.net.specs.Panel.{contact_of}
use Rattle.net.specs.Passing.{AreContactsSilent, closes_at_row}
use Rattle.net.specs.RowSets.{after_rows, pictures_of}
use Rattle.net.specs.WholeCycles.{after_points}
use Rattle.net.specs.declared.cycle.Cycle.{Cycle}
use Rattle.net.specs.declared.cycle.Cycle.TheVariants.{RunIn, Card, Prog, Head}
use Rattle.net.specs.declared.cycle.Point.{Point}
use Rattle.net.specs.declared.cycle.Point.TheVariants.{Row}
use Rattle.print_unit.specs.Emitters.{emits_row, emitters_emit}
use Rattle.stations.specs.Comparing.{Compared, comparing_emits, comparing_sensed}
use Rattle.stations.specs.Stations.{StationCards, first_emits, second_emits, stations_emits}
use Rattle.storage_units.specs.Storage.{StorageState, storage_emits, storage_sensed}
use Rattle.machine.specs.AllRows.{RunsRows}
use Rattle.machine.specs.Cycles.{Reached, point_at}
use Rattle.machine.specs.Machine.{MachineState, closes, emits, sensed}
use Rattle.machine.specs.Fields.{AreInUnitOrder}
use Rattle.machine.specs.Steady.{AreSteady, closed_at}
use Rattle.machine.specs.declared.closed.Closed.{Closed}
use Rattle.machine.proofs.ClosedContacts.{AreSteady-sensed, closes-others, closes-steady}
use Rattle.machine.proofs.RestingRows.{each-after}
use Rattle.machine.proofs.Pictures.{IsPicture-same}

-- comparing emits at no row
comparing-row : (compared : Compared) (cycle : Cycle) (row : CardRow) (hub : Hub) → comparing_emits compared cycle (Row row) hub ≡ false
comparing-row compared RunIn row hub = refl
comparing-row compared Card row hub = refl
comparing-row compared (Prog level ordinal) row hub = refl
comparing-row compared (Head heading) row hub = refl

-- what groups and storage units sense at a row changes nothing of what they emit at rows
groups-steady : (groups : List Counter) (cycle : Cycle) (at other : CardRow) (picture : Hub → Bool) (hub : Hub)
    → list_any (λ group. counter_emits group cycle (Row other) hub) (map (λ group. counter_sensed group cycle (Row at) picture) groups)
    ≡ list_any (λ group. counter_emits group cycle (Row other) hub) groups
groups-steady [] cycle at other picture hub = refl
groups-steady (group ∷ groups) cycle at other picture hub =
    let rest = groups-steady groups cycle at other picture hub in λ i. counter_emits group cycle (Row other) hub || rest i

unit-steady : (storage : StorageState) (cycle : Cycle) (at other : CardRow) (picture : Hub → Bool) (hub : Hub)
    → storage_emits (storage_sensed storage cycle (Row at) picture) cycle (Row other) hub ≡ storage_emits storage cycle (Row other) hub
unit-steady storage cycle at other picture (SX unit column) = refl
unit-steady storage cycle at other picture hub = refl

storage-steady : (units : List StorageState) (cycle : Cycle) (at other : CardRow) (picture : Hub → Bool) (hub : Hub)
    → list_any (λ storage. storage_emits storage cycle (Row other) hub) (map (λ storage. storage_sensed storage cycle (Row at) picture) units)
    ≡ list_any (λ storage. storage_emits storage cycle (Row other) hub) units
storage-steady [] cycle at other picture hub = refl
storage-steady (unit ∷ units) cycle at other picture hub =
    let here = unit-steady unit cycle at other picture hub in
    let rest = storage-steady units cycle at other picture hub in λ i. here i || rest i

-- what is emitted at a row hangs on no picture of another one
emits-steady : (machine : MachineState) (cycle : Cycle) (at other : CardRow) (picture : Hub → Bool) (hub : Hub)
    → emits (sensed machine cycle (Row at) picture) cycle (Row other) hub ≡ emits machine cycle (Row other) hub
emits-steady machine cycle at other picture hub =
    rw (
      comparing-row (comparing_sensed machine.comparing cycle (Row at) picture) cycle other hub,
      comparing-row machine.comparing cycle other hub,
      groups-steady machine.groups cycle at other picture hub,
      storage-steady machine.storage cycle at other picture hub,
    )
    refl

-- a point of a cycle is reached, and all rows emit, and close contacts, as before the first of them
record Along (wiring : Wiring) (cycle : Cycle) (start mid now : MachineState) (place : ℕ) : Type 0 where
  reached : Reached wiring cycle place start now
  emitted : (at : CardRow) (hub : Hub) → emits now cycle (Row at) hub ≡ emits mid cycle (Row at) hub
  closed : (at : CardRow) (hub : Hub) → closes now cycle (Row at) hub ≡ closes mid cycle (Row at) hub

along-more : (wiring : Wiring) (cycle : Cycle) (start mid now : MachineState) (place : ℕ) (at : CardRow) (picture : Hub → Bool)
    → point_at place ≡ Row at → IsPicture wiring (emits mid cycle (Row at)) (closes mid cycle (Row at)) picture
    → Along wiring cycle start mid now place → Along wiring cycle start mid (sensed now cycle (Row at) picture) (suc place)
unfolding Reached
along-more wiring cycle start mid now place at picture is is_picture along = record {
  reached = (
    now,
    along.reached,
    rw is (record {
      picture = picture;
      is_picture =
          IsPicture-same wiring (emits mid cycle (Row at)) (emits now cycle (Row at)) (closes mid cycle (Row at)) (closes now cycle (Row at))
          picture (λ hub. sym (along.emitted at hub)) (λ hub. sym (along.closed at hub)) is_picture;
      is_new = refl;
    }),
  );
  emitted = λ other hub. emits-steady now cycle at other picture hub ∙ along.emitted other hub;
  closed = λ other hub. closes-steady now cycle (Row at) (Row other) picture hub refl ∙ along.closed other hub;
}

-- pictures of the rows that the machine after the control point has are those of the points one by one
pub rows-reached : (wiring : Wiring) (cycle : Cycle) (mid : MachineState) (pictures : Point → Hub → Bool)
    → ((at : CardRow) → IsPicture wiring (emits mid cycle (Row at)) (closes mid cycle (Row at)) (pictures (Row at)))
    → RunsRows wiring cycle mid (after_rows sensed cycle pictures mid)
rows-reached wiring cycle mid pictures are start reached =
    let step : (now : MachineState) (place : ℕ) (at : CardRow) → point_at place ≡ Row at → Along wiring cycle start mid now place
    → Along wiring cycle start mid (sensed now cycle (Row at) (pictures (Row at))) (suc place) =
    λ now place at is along. along-more wiring cycle start mid now place at (pictures (Row at)) is (are at) along in
    let a0 : Along wiring cycle start mid mid 1 =
    record { reached = reached; emitted = λ at hub. refl; closed = λ at hub. refl } in
    let a1 = step _ 1 row.Nine refl a0 in
    let a2 = step _ 2 row.Eight refl a1 in
    let a3 = step _ 3 row.Seven refl a2 in
    let a4 = step _ 4 row.Six refl a3 in
    let a5 = step _ 5 row.Five refl a4 in
    let a6 = step _ 6 row.Four refl a5 in
    let a7 = step _ 7 row.Three refl a6 in
    let a8 = step _ 8 row.Two refl a7 in
    let a9 = step _ 9 row.One refl a8 in
    let a10 = step _ 10 row.Zero refl a9 in
    let a11 = step _ 11 row.Eleven refl a10 in
    let a12 = step _ 12 row.Twelve refl a11 in
    a12.reached

-- hubs that differ are not the same hub of the panel
hub-apart : (one other : Hub) → one ≢ other → is_hub one other ≡ false
hub-apart one other differ = by (is_hub one other) refl
  where
    by : (b : Bool) → is_hub one other ≡ b → is_hub one other ≡ false
    by true is = absurd (differ (is_hub-same one other is))
    by false is = is

shows-apart : (name : Group) (given : ℕ) (digits : List ℕ) (hub : Hub) → ((position : ℕ) → GX name position ≢ hub)
    → shows name given digits hub ≡ false
shows-apart name given [] hub apart = refl
shows-apart name given (digit ∷ below) hub apart =
    let here = hub-apart (GX name (length below + 1)) hub (apart (length below + 1)) in
    let rest = shows-apart name given below hub apart in
    rw (here, rest) (no-and (digit == given))
  where
    no-and : (b : Bool) → ((b && false) || false) ≡ false
    no-and true = refl
    no-and false = refl

-- what no unit emits
pub record IsNoExit (hub : Hub) : Type 0 where
  pub first : (card : Option (List ℕ)) (at : CardRow) → first_emits card at hub ≡ false
  pub second : (card : Option (List ℕ)) (at : CardRow) → second_emits card at hub ≡ false
  pub group : (name : Group) (position : ℕ) → GX name position ≢ hub
  pub storage : (unit : StorageState) (cycle : Cycle) (at : CardRow) → storage_emits unit cycle (Row at) hub ≡ false
  pub emitter : (emitter at : ℕ) → EM emitter at ≢ hub

-- what only the stations may emit
pub stations-alone : (machine : MachineState) (cycle : Cycle) (at : CardRow) (hub : Hub)
    → ((name : Group) (position : ℕ) → GX name position ≢ hub)
    → ((unit : StorageState) (c : Cycle) (row : CardRow) → storage_emits unit c (Row row) hub ≡ false)
    → ((emitter row : ℕ) → EM emitter row ≢ hub)
    → emits machine cycle (Row at) hub ≡ stations_emits machine.stations cycle (Row at) hub
stations-alone machine cycle at hub no_group no_storage no_emitter =
    rw (comparing-row machine.comparing cycle at hub, groups machine.groups, storage machine.storage, emitters (emitter_of cycle))
    (ends (stations_emits machine.stations cycle (Row at) hub))
  where
    ends : (a : Bool) → (a || false || false || false || false || false || false || false || false || false || false) ≡ a
    ends true = refl
    ends false = refl

    groups : (list : List Counter) → list_any (λ group. counter_emits group cycle (Row at) hub) list ≡ false
    groups [] = refl
    groups (group ∷ others) =
        let here = shows-apart group.name (row_number at) group.digits hub (no_group group.name) in
        rw (here, groups others) (no-and group.controls.read_out)
      where
        no-and : (b : Bool) → ((b && false) || false) ≡ false
        no-and true = refl
        no-and false = refl

    storage : (list : List StorageState) → list_any (λ unit. storage_emits unit cycle (Row at) hub) list ≡ false
    storage [] = refl
    storage (unit ∷ others) = let here = no_storage unit cycle at in let rest = storage others in λ i. here i || rest i

    emitters : (emitter : Option ℕ) → emits_row emitter at hub ≡ false
    emitters None = refl
    emitters (Some emitter) = hub-apart (EM emitter (row_number at)) hub (no_emitter emitter (row_number at))

pub none-emitted : (machine : MachineState) (cycle : Cycle) (at : CardRow) (hub : Hub) → IsNoExit hub → emits machine cycle (Row at) hub ≡ false
none-emitted machine cycle at hub not_exit =
    stations-alone machine cycle at hub not_exit.group not_exit.storage not_exit.emitter ∙ stations machine.stations cycle
  where
    stations : (cards : StationCards) (c : Cycle) → stations_emits cards c (Row at) hub ≡ false
    stations cards RunIn = not_exit.first cards.first at
    stations cards Card = let one = not_exit.first cards.first at in let other = not_exit.second cards.second at in λ i. one i || other i
    stations cards (Prog level ordinal) = refl
    stations cards (Head heading) = refl

-- a hub from which contacts lead is emitted by no unit
pub common-silent : (machine : MachineState) (cycle : Cycle) (at : CardRow) (common hub : Hub) → contact_of hub ≡ Some common
    → emits machine cycle (Row at) common ≡ false
common-silent machine cycle at common hub is = none-emitted machine cycle at common (by hub is)
  where
    carry : (group : Group) → IsNoExit (CI group)
    carry group = record { first = λ card at. refl; second = λ card at. refl; group = λ name position e. cc; storage = λ unit cycle at. refl; emitter = λ emitter at e. cc }

    balance : (group : Group) (position : ℕ) → IsNoExit (BAC group position)
    balance group position = record { first = λ card at. refl; second = λ card at. refl; group = λ name position e. cc; storage = λ unit cycle at. refl; emitter = λ emitter at e. cc }

    pilot : (number position : ℕ) → IsNoExit (PIC number position)
    pilot number position = record { first = λ card at. refl; second = λ card at. refl; group = λ name position e. cc; storage = λ unit cycle at. refl; emitter = λ emitter at e. cc }

    level : (number position : ℕ) → IsNoExit (IE number position)
    level number position = record { first = λ card at. refl; second = λ card at. refl; group = λ name position e. cc; storage = λ unit cycle at. refl; emitter = λ emitter at e. cc }

    split : (number : ℕ) → IsNoExit (CSE number)
    split number = record { first = λ card at. refl; second = λ card at. refl; group = λ name position e. cc; storage = λ unit cycle at. refl; emitter = λ emitter at e. cc }

    same : (one other : Hub) → IsNoExit one → ◌≡◌ {A = Option Hub} (Some one) (Some other) → IsNoExit other
    same one other not_exit e = let is : one ≡ other = cc in subst IsNoExit is not_exit

    by : (h : Hub) → contact_of h ≡ Some common → IsNoExit common
    by (CO group) e = same (CI group) common (carry group) e
    by (BAN group position) e = same (BAC group position) common (balance group position) e
    by (BAT group position) e = same (BAC group position) common (balance group position) e
    by (PIN number position) e = same (PIC number position) common (pilot number position) e
    by (PIT number position) e = same (PIC number position) common (pilot number position) e
    by (IX number position) e = same (IE number position) common (level number position) e
    by (CSD number) e = same (CSE number) common (split number) e
    by (CSZ number) e = same (CSE number) common (split number) e
    by other e = cc

-- nor is one that they lead to
exit-silent : (machine : MachineState) (cycle : Cycle) (at : CardRow) (common hub : Hub) → contact_of hub ≡ Some common
    → emits machine cycle (Row at) hub ≡ false
exit-silent machine cycle at common hub is = none-emitted machine cycle at hub (by hub is)
  where
    by : (h : Hub) → contact_of h ≡ Some common → IsNoExit h
    by (CO group) e = record { first = λ card at. refl; second = λ card at. refl; group = λ name position e. cc; storage = λ unit cycle at. refl; emitter = λ emitter at e. cc }
    by (BAN group position) e = record { first = λ card at. refl; second = λ card at. refl; group = λ name position e. cc; storage = λ unit cycle at. refl; emitter = λ emitter at e. cc }
    by (BAT group position) e = record { first = λ card at. refl; second = λ card at. refl; group = λ name position e. cc; storage = λ unit cycle at. refl; emitter = λ emitter at e. cc }
    by (PIN number position) e = record { first = λ card at. refl; second = λ card at. refl; group = λ name position e. cc; storage = λ unit cycle at. refl; emitter = λ emitter at e. cc }
    by (PIT number position) e = record { first = λ card at. refl; second = λ card at. refl; group = λ name position e. cc; storage = λ unit cycle at. refl; emitter = λ emitter at e. cc }
    by (IX number position) e = record { first = λ card at. refl; second = λ card at. refl; group = λ name position e. cc; storage = λ unit cycle at. refl; emitter = λ emitter at e. cc }
    by (CSD number) e = record { first = λ card at. refl; second = λ card at. refl; group = λ name position e. cc; storage = λ unit cycle at. refl; emitter = λ emitter at e. cc }
    by (CSZ number) e = record { first = λ card at. refl; second = λ card at. refl; group = λ name position e. cc; storage = λ unit cycle at. refl; emitter = λ emitter at e. cc }
    by other e = cc

-- the contacts that are closed at a row are those of the machine
closed-rows : (cycle : Cycle) (closed : Closed) (machine : MachineState) (at : CardRow) (hub : Hub) → AreInUnitOrder machine.groups
    → AreSteady cycle closed machine → closes_at_row closed.digits closed.zones at hub ≡ closes machine cycle (Row at) hub
closed-rows cycle closed machine at hub ordered steady = as_well at ∙ closes-others cycle closed machine (Row at) hub ordered steady refl where
  as_well : (at : CardRow) → closes_at_row closed.digits closed.zones at hub ≡ has_hub (closed_at closed (Row at)) hub
  as_well row.Nine = refl
  as_well row.Eight = refl
  as_well row.Seven = refl
  as_well row.Six = refl
  as_well row.Five = refl
  as_well row.Four = refl
  as_well row.Three = refl
  as_well row.Two = refl
  as_well row.One = refl
  as_well row.Zero = refl
  as_well row.Eleven = refl
  as_well row.Twelve = refl

-- hubs on both sides of contacts have no row, where the rows are what a machine emits
pub contacts-silent : (machine : MachineState) (cycle : Cycle) (sets : List ℕ)
    → ((at : CardRow) (hub : Hub) → has_row_at sets (passing_place at) hub ≡ emits machine cycle (Row at) hub) → AreContactsSilent sets
contacts-silent machine cycle sets emitted common hub contact at = (
  emitted at common ∙ common-silent machine cycle at common hub contact,
  emitted at hub ∙ exit-silent machine cycle at common hub contact,
)

-- what a picture tells at the entries that units sense at a row
abbrev heard : (Hub → Bool) → Hub → Bool
heard picture (CA position) = picture (CA position)
heard picture (CB position) = picture (CB position)
heard picture (GE group position) = picture (GE group position)
heard picture (SE unit column) = picture (SE unit column)
heard picture (PIX pilot) = picture (PIX pilot)
heard picture (W wheel) = picture (W wheel)
heard picture other = false

-- the units sense no more than that at a row
wheels-heard : (v : ℕ) (at : CardRow) (picture : Hub → Bool) (wheels : List Wheel)
    → collected v at picture wheels ≡ collected v at (heard picture) wheels
wheels-heard v at picture [] = refl
wheels-heard v at picture (wheel ∷ others) =
    ap (λ (rest : List Wheel). wheel_sensed at (picture (W v)) wheel ∷ rest) (wheels-heard (v + 1) at picture others)

compared-heard : (compared : Compared) (cycle : Cycle) (at : CardRow) (picture : Hub → Bool)
    → comparing_sensed compared cycle (Row at) picture ≡ comparing_sensed compared cycle (Row at) (heard picture)
compared-heard compared RunIn at picture = refl
compared-heard compared Card at picture = refl
compared-heard compared (Prog level ordinal) at picture = refl
compared-heard compared (Head heading) at picture = refl

program-heard : (program : ProgramState) (cycle : Cycle) (at : CardRow) (picture : Hub → Bool)
    → program_sensed program cycle (Row at) picture ≡ program_sensed program cycle (Row at) (heard picture)
program-heard program RunIn at picture = refl
program-heard program Card at picture = refl
program-heard program (Prog level ordinal) at picture = refl
program-heard program (Head heading) at picture = refl

sensed-heard : (machine : MachineState) (cycle : Cycle) (at : CardRow) (picture : Hub → Bool)
    → sensed machine cycle (Row at) picture ≡ sensed machine cycle (Row at) (heard picture)
sensed-heard machine cycle at picture =
    let comparing = compared-heard machine.comparing cycle at picture in
    let program = program-heard machine.program cycle at picture in
    let wheels = wheels-heard 1 at picture machine.wheels.wheels in
    λ i. record (sensed machine cycle (Row at) picture) {
      comparing = comparing i;
      program = program i;
      wheels = record machine.wheels { wheels = wheels i };
    }

-- rows one after another, where each does the same
pub rows-alike : {State : Type 0} (sense : State → Cycle → Point → (Hub → Bool) → State) (cycle : Cycle) (one other : Point → Hub → Bool)
    → ((at : CardRow) (state : State) → sense state cycle (Row at) (one (Row at)) ≡ sense state cycle (Row at) (other (Row at)))
    → (list : List CardRow) (state : State)
    → after_points sense cycle one (map Row list) state ≡ after_points sense cycle other (map Row list) state
rows-alike sense cycle one other same [] state = refl
rows-alike {State} sense cycle one other same (at ∷ list) state =
    ap (λ (s : State). after_points sense cycle one (map Row list) s) (same at state)
    ∙ rows-alike sense cycle one other same list (sense state cycle (Row at) (other (Row at)))

-- so it is where they tell the same
pub rows-heard : (cycle : Cycle) (one other : Point → Hub → Bool)
    → ((at : CardRow) (hub : Hub) → heard (one (Row at)) hub ≡ heard (other (Row at)) hub) → (machine : MachineState)
    → after_rows sensed cycle one machine ≡ after_rows sensed cycle other machine
rows-heard cycle one other same machine = rows-alike sensed cycle one other step rows machine where
  step : (at : CardRow) (m : MachineState) → sensed m cycle (Row at) (one (Row at)) ≡ sensed m cycle (Row at) (other (Row at))
  step at m =
      let heard-same : ◌≡◌ {A = Hub → Bool} (heard (one (Row at))) (heard (other (Row at))) = λ i hub. same at hub i in
      sensed-heard m cycle at (one (Row at)) ∙ ap (λ (picture : Hub → Bool). sensed m cycle (Row at) picture) heard-same
      ∙ sym (sensed-heard m cycle at (other (Row at)))

-- what else is emitted is heard by none
pub whole-heard : (machine : MachineState) (cycle : Cycle) (at : CardRow) (picture : Hub → Bool) (hub : Hub)
    → heard (λ h. picture h || (is_hub_in_range h && emits machine cycle (Row at) h)) hub ≡ heard picture hub
whole-heard machine cycle at picture hub = by hub where
  quiet : (entry : Hub) → IsNoExit entry
      → (picture entry || (is_hub_in_range entry && emits machine cycle (Row at) entry)) ≡ picture entry
  quiet entry not_exit = rw (none-emitted machine cycle at entry not_exit) (ends (picture entry) (is_hub_in_range entry)) where
    ends : (a b : Bool) → (a || (b && false)) ≡ a
    ends true b = refl
    ends false true = refl
    ends false false = refl

  by : (h : Hub) → heard (λ h. picture h || (is_hub_in_range h && emits machine cycle (Row at) h)) h ≡ heard picture h
  by (CA position) = quiet (CA position) (record { first = λ card at. refl; second = λ card at. refl; group = λ name place e. cc; storage = λ unit cycle at. refl; emitter = λ emitter at e. cc })
  by (CB position) = quiet (CB position) (record { first = λ card at. refl; second = λ card at. refl; group = λ name place e. cc; storage = λ unit cycle at. refl; emitter = λ emitter at e. cc })
  by (GE group position) = quiet (GE group position) (record { first = λ card at. refl; second = λ card at. refl; group = λ name place e. cc; storage = λ unit cycle at. refl; emitter = λ emitter at e. cc })
  by (SE unit column) = quiet (SE unit column) (record { first = λ card at. refl; second = λ card at. refl; group = λ name place e. cc; storage = λ unit cycle at. refl; emitter = λ emitter at e. cc })
  by (PIX pilot) = quiet (PIX pilot) (record { first = λ card at. refl; second = λ card at. refl; group = λ name place e. cc; storage = λ unit cycle at. refl; emitter = λ emitter at e. cc })
  by (W wheel) = quiet (W wheel) (record { first = λ card at. refl; second = λ card at. refl; group = λ name place e. cc; storage = λ unit cycle at. refl; emitter = λ emitter at e. cc })
  by other = refl

-- what is spread of the rows that are emitted are the pictures of the rows
pub rows-run : (wiring : Wiring) (cycle : Cycle) (closed : Closed) (mid new : MachineState) (exits final : List ℕ)
    → AreInUnitOrder mid.groups → AreSteady cycle closed mid
    → ((at : CardRow) (hub : Hub) → has_row_at exits (passing_place at) hub ≡ emits mid cycle (Row at) hub)
    → ((at : CardRow) → IsPicture wiring (pictures_of exits (Row at)) (closes_at_row closed.digits closed.zones at) (pictures_of final (Row at)))
    → new ≡ after_rows sensed cycle (pictures_of final) mid → RunsRows wiring cycle mid new
rows-run wiring cycle closed mid new exits final ordered steady emitted spread is =
    subst (λ (m : MachineState). RunsRows wiring cycle mid m) (sym is)
    (rows-reached wiring cycle mid (pictures_of final)
    (λ at. IsPicture-same wiring (pictures_of exits (Row at)) (emits mid cycle (Row at)) (closes_at_row closed.digits closed.zones at)
    (closes mid cycle (Row at)) (pictures_of final (Row at)) (emitted at) (λ hub. closed-rows cycle closed mid at hub ordered steady) (spread at)))

-- contacts stay as they are through the rows
pub rows-steady : (cycle : Cycle) (closed : Closed) (pictures : Point → Hub → Bool) (list : List Point) (old : MachineState)
    → AreSteady cycle closed old → AreSteady cycle closed (after_points sensed cycle pictures list old)
rows-steady cycle closed pictures [] old steady = steady
rows-steady cycle closed pictures (point ∷ others) old steady =
    rows-steady cycle closed pictures others (sensed old cycle point (pictures point))
    (AreSteady-sensed cycle closed old point (pictures point) steady)

-- the program unit senses no row
program-rows : (cycle : Cycle) (pictures : Point → Hub → Bool) (program : ProgramState)
    → program ≡ after_rows program_sensed cycle pictures program
program-rows RunIn pictures program = refl
program-rows Card pictures program = refl
program-rows (Prog level ordinal) pictures program = refl
program-rows (Head heading) pictures program = refl

-- what all units emit at a row
pub units-emit : (machine : MachineState) (cycle : Cycle) (at : CardRow) (hub : Hub)
    → (((stations_emits machine.stations cycle (Row at) hub || list_any (λ group. counter_emits group cycle (Row at) hub) machine.groups)
    || list_any (λ storage. storage_emits storage cycle (Row at) hub) machine.storage)
    || emitters_emit machine.emitters cycle (Row at) hub)
    ≡ emits machine cycle (Row at) hub
units-emit machine cycle at hub =
    rw (comparing-row machine.comparing cycle at hub)
    (ends (stations_emits machine.stations cycle (Row at) hub) (list_any (λ group. counter_emits group cycle (Row at) hub) machine.groups)
    (list_any (λ storage. storage_emits storage cycle (Row at) hub) machine.storage) (emitters_emit machine.emitters cycle (Row at) hub))
  where
    ends : (a b c d : Bool)
        → (((a || b) || c) || d) ≡ ((((((((((a || false) || b) || c) || false) || false) || false) || d) || false) || false) || false)
    ends true b c d = refl
    ends false true c d = refl
    ends false false true d = refl
    ends false false false true = refl
    ends false false false false = refl

-- the machine after all rows, where groups and storage units sense them first
pub units-sensed : (cycle : Cycle) (pictures : Point → Hub → Bool) (old mid : MachineState)
    → mid ≡ record old {
      groups = map (λ group. after_rows counter_sensed cycle pictures group) old.groups;
      storage = map (λ unit. after_rows storage_sensed cycle pictures unit) old.storage;
    }
    → record mid {
      comparing = after_rows comparing_sensed cycle pictures mid.comparing;
      pilots = after_rows pilots_sensed cycle pictures mid.pilots;
      wheels = after_rows wheels_sensed cycle pictures mid.wheels;
    }
    ≡ after_rows sensed cycle pictures old
units-sensed cycle pictures old mid is =
    let groups = ap (λ (m : MachineState). m.groups) is ∙ each-after counter_sensed cycle pictures (map Row rows) old.groups in
    let storage = ap (λ (m : MachineState). m.storage) is ∙ each-after storage_sensed cycle pictures (map Row rows) old.storage in
    let program = ap (λ (m : MachineState). m.program) is ∙ program-rows cycle pictures old.program in
    λ i. record (after_rows sensed cycle pictures (is i)) { groups = groups i; storage = storage i; program = program i }
