-- Counter groups that are under no control emit nothing, sense nothing but controls and carries, and end a cycle as they are.
use Rattle.std.proofs.Common.{◌≡◌, ℕ, zero, suc, ◌+◌, ◌/◌, ◌^◌, ◌<◌, ◌≤◌, ◌-◌, Bool, true, false, not, ◌&&◌, ◌||◌, nat_le, List, [], ◌∷◌, Option, Some, None, option_map, map, length, get_or, if◌then◌else◌, refl, sym, ap, subst, ◌∙◌, arith, rules}
use Rattle.std.proofs.lemmas.Bool.Decides.{nat_tests}
use Rattle.std.specs.List.{list_any}
use Rattle.std.proofs.lemmas.Bool.{false≢true}
use Rattle.card_code.specs.Rows.{row_number}
use Rattle.card_code.specs.declared.row.Row.{Row as CardRow}
use Rattle.counters.specs.Counters.{Counter, no_controls, controls_of, counter_emits, counter_number, counter_sensed, counter_ended, counter_at_start, digits_ended, all_taken, takes, top_is_nine, shows, wheels_in}
use Rattle.counters.specs.Laws.{IsCounter}
use Rattle.counters.proofs.Idle.{idle-carries_out, idle-turned}
use Rattle.counters.proofs.Staying.{counters-stay}
use Rattle.counters.specs.Wheels.{carries_out, turned}
use Rattle.counters.specs.declared.controls.Controls.{Controls}
use Rattle.hubs.specs.Hubs.{number_of}
use Rattle.hubs.specs.HubTable.Places.{group_place}
use Rattle.hubs.specs.declared.hub.Group.{Group}
use Rattle.hubs.specs.declared.hub.Hub.{Hub}
use Rattle.hubs.specs.declared.hub.Hub.TheVariants.{CI, CO, GE, PL, MI, RO, BT}
use Rattle.net.proofs.Below.machine_sets.BitSets.BitLemmas.{is_bit-low, is_bit-or, is_bit-shr, is_bit-zero}
use Rattle.std.specs.Int.Bits.{bit_and, bit_or}
use Rattle.std.specs.Prelude.{◌==◌, slice_index_or}
use Rattle.std.proofs.lemmas.Nat.{and_mask}
use Rattle.net.specs.HubSets.{HubSet, has_hub, is_bit, is_hub, is_bit_from, is_in_reach, is_in_row, is_near}
use Rattle.net.specs.Orders.{IsRowOf}
use Rattle.net.specs.Cycles.{is_closing}
use Rattle.net.specs.Panel.{unit_after, unit_of}
use Rattle.net.specs.declared.cycle.Cycle.{Cycle}
use Rattle.net.specs.declared.cycle.Point.{Point}
use Rattle.net.specs.declared.cycle.Point.TheVariants.{C, Row, K}
use Rattle.machine.specs.Fields.{AreInUnitOrder}
use Rattle.selectors.specs.Contacts.{is_nines}
use Rattle.machine.specs.Machine.{group_units}
use Rattle.machine.specs.Marked.{any_marked, marked_changed}
use Rattle.machine.specs.Rest.{AreApart, AreBusy, AreCarriesMarked, AreReadOutsMarked, AreSilent, AreTestsMarked, AreToldMarked, ComeToNoNines, HaveNoMore, IsAtRest}
use Rattle.machine.specs.declared.groups.Busy.{Busy}
use Rattle.machine.proofs.ClosedContacts.{AreFrom, are_from, group_units-up, unit_of-last}
use Rattle.machine.proofs.Marks.{IsTaken}

-- no carry leaves a group at rest
pub rest-carries : (group : Counter) → IsCounter group → IsAtRest group → carries_out (wheels_in group) false ≡ false
rest-carries group lawful rest =
    idle-carries_out group.controls group.digits group.entered (ap (λ (c : Controls). c.read_out) rest.controls)
    (ap (λ (c : Controls). c.minus) rest.controls) (ap (λ (c : Controls). c.plus) rest.controls) lawful.digits

-- a group at rest emits nothing
rest-silent : (group : Counter) (cycle : Cycle) (point : Point) (exit : Hub) → IsCounter group → IsAtRest group
    → counter_emits group cycle point exit ≡ false
rest-silent group cycle C exit lawful rest = refl
rest-silent group cycle (Row row) exit lawful rest =
    ap (λ (c : Controls). c.read_out && shows group.name (row_number row) group.digits exit) rest.controls
rest-silent group cycle K exit lawful rest =
    ap (λ (b : Bool). b && is_hub (CO group.name) exit) (rest-carries group lawful rest)

emits-from : (busy : Busy) (k : ℕ) (groups : List Counter) (cycle : Cycle) (point : Point) (exit : Hub) → HaveNoMore busy k groups
    → any_marked busy.controlled k (λ group. counter_emits group cycle point exit) groups
    ≡ list_any (λ group. counter_emits group cycle point exit) groups
emits-from busy k [] cycle point exit held = refl
emits-from busy k (group ∷ groups) cycle point exit (here, others) =
    ap (λ b. b || any_marked busy.controlled (suc k) (λ group. counter_emits group cycle point exit) groups)
    (by (is_bit busy.controlled k) here.rest)
    ∙ ap (λ b. counter_emits group cycle point exit || b) (emits-from busy (suc k) groups cycle point exit others)
  where
    by : (b : Bool) → (b ≡ false → IsAtRest group) → (b && counter_emits group cycle point exit) ≡ counter_emits group cycle point exit
    by true rest = refl
    by false rest = sym (rest-silent group cycle point exit here.lawful (rest refl))

-- what the groups emit that may be under a control is all that groups emit
pub busy-emits : (busy : Busy) (groups : List Counter) (cycle : Cycle) (point : Point) (exit : Hub) → AreBusy busy groups
    → any_marked busy.controlled 0 (λ group. counter_emits group cycle point exit) groups
    ≡ list_any (λ group. counter_emits group cycle point exit) groups
busy-emits busy groups cycle point exit held = emits-from busy 0 groups cycle point exit held

shows-from : (busy : Busy) (k : ℕ) (groups : List Counter) (cycle : Cycle) (row : CardRow) (exit : Hub) → HaveNoMore busy k groups
    → any_marked busy.reading_out k (λ group. counter_emits group cycle (Row row) exit) groups
    ≡ list_any (λ group. counter_emits group cycle (Row row) exit) groups
shows-from busy k [] cycle row exit held = refl
shows-from busy k (group ∷ groups) cycle row exit (here, others) =
    ap (λ b. b || any_marked busy.reading_out (suc k) (λ group. counter_emits group cycle (Row row) exit) groups)
    (by (is_bit busy.reading_out k) here.silent)
    ∙ ap (λ b. counter_emits group cycle (Row row) exit || b) (shows-from busy (suc k) groups cycle row exit others)
  where
    by : (b : Bool) → (b ≡ false → group.controls.read_out ≡ false)
        → (b && counter_emits group cycle (Row row) exit) ≡ counter_emits group cycle (Row row) exit
    by true silent = refl
    by false silent = sym (ap (λ (reads : Bool). reads && shows group.name (row_number row) group.digits exit) (silent refl))

-- at a row the groups emit alone that may be told to read out
pub busy-shows : (busy : Busy) (groups : List Counter) (cycle : Cycle) (row : CardRow) (exit : Hub) → AreBusy busy groups
    → any_marked busy.reading_out 0 (λ group. counter_emits group cycle (Row row) exit) groups
    ≡ list_any (λ group. counter_emits group cycle (Row row) exit) groups
busy-shows busy groups cycle row exit held = shows-from busy 0 groups cycle row exit held

silent-controls : (name : Group) (picture : Hub → Bool) → AreSilent picture name → controls_of name picture ≡ no_controls
silent-controls name picture silent = λ i. record {
  plus = silent.plus i;
  minus = silent.minus i;
  read_out = silent.read_out i;
  test = silent.test i;
}

-- a group stays as it is where it is at rest and told nothing, and at the closing point where no carry came or comes in
rest-stays : (group : Counter) (cycle : Cycle) (point : Point) (picture : Hub → Bool)
    → (is_closing point ≡ false → IsAtRest group) → (is_closing point ≡ true → group.carry ≡ false)
    → (point ≡ C → AreSilent picture group.name) → (point ≡ K → picture (CI group.name) ≡ false)
    → counter_sensed group cycle point picture ≡ group
rest-stays group cycle C picture rest empty silent none = λ i.
    record group { controls = (silent-controls group.name picture (silent refl) ∙ sym (rest refl).controls) i }
rest-stays group cycle (Row row) picture rest empty silent none = λ i.
    record group {
      entered =
          ap
          (λ (c : Controls).
          if takes c (row_number row)
          then all_taken (row_number row) (λ position. picture (GE group.name position)) group.entered
          else group.entered)
          (rest refl).controls
          i;
    }
rest-stays group cycle K picture rest empty silent none = λ i. record group { carry = (none refl ∙ sym (empty refl)) i }

-- What a point leaves of groups of which this was held before, and this after it.
pub record BusyAfter (point : Point) (picture : Hub → Bool) (before after : Busy) : Type 0 where
  pub uncontrolled : (k : ℕ) → is_bit after.controlled k ≡ false → is_bit before.controlled k ≡ false
  pub told : point ≡ C → AreToldMarked after.controlled picture
  pub unread : (k : ℕ) → is_bit after.reading_out k ≡ false → is_bit before.reading_out k ≡ false
  pub read_out : point ≡ C → AreReadOutsMarked after.reading_out picture
  pub untested : (k : ℕ) → is_bit after.tested k ≡ false → is_bit before.tested k ≡ false
  pub tests : point ≡ C → AreTestsMarked after.tested picture
  pub empty : (k : ℕ) → is_bit after.carried k ≡ false → is_bit before.carried k ≡ false
  pub carries : point ≡ K → AreCarriesMarked after.carried picture

-- the bit of a group is the one after its unit
group_bit : (marks k : ℕ) (group : Counter) → counter_number group ≡ 3 + k → is_bit marks k ≡ false
    → is_bit marks (counter_number group - 3) ≡ false
group_bit marks k group is off = let place : counter_number group - 3 ≡ k = omega (arith, is) in ap (is_bit marks) place ∙ off

-- which groups may change by what they sense
abbrev pub sensing_of : Busy → Point → ℕ
sensing_of busy point = if is_closing point then busy.carried else busy.controlled

senses-from : (n k : ℕ) (groups : List Counter) (cycle : Cycle) (point : Point) (picture : Hub → Bool) (before after : Busy)
    → n ≡ 3 + k → AreFrom n groups → HaveNoMore before k groups → BusyAfter point picture before after
    → marked_changed (sensing_of after point) k (λ group. counter_sensed group cycle point picture) groups
    ≡ map (λ group. counter_sensed group cycle point picture) groups
senses-from n k [] cycle point picture before after up from held goes = refl
senses-from n k (group ∷ groups) cycle point picture before after up (is, from) (here, others) goes =
    ap
    (λ (g : Counter).
    g ∷ marked_changed (sensing_of after point) (suc k) (λ group. counter_sensed group cycle point picture) groups)
    (by (is_bit (sensing_of after point) k) refl)
    ∙ ap (λ (gs : List Counter). counter_sensed group cycle point picture ∷ gs)
    (senses-from (suc n) (suc k) groups cycle point picture before after (omega (arith, up)) from others goes)
  where
    by : (b : Bool) → is_bit (sensing_of after point) k ≡ b
        → (if b then counter_sensed group cycle point picture else group) ≡ counter_sensed group cycle point picture
    by true on = refl
    by false off =
        let controls : is_closing point ≡ false → is_bit after.controlled k ≡ false
        = λ e. sym (ap (λ (b : Bool). is_bit (if b then after.carried else after.controlled) k) e) ∙ off in
        let carries : is_closing point ≡ true → is_bit after.carried k ≡ false
        = λ e. sym (ap (λ (b : Bool). is_bit (if b then after.carried else after.controlled) k) e) ∙ off in
        let third : 3 ≤ counter_number group = omega (arith, is, up) in
        sym
        (rest-stays group cycle point picture (λ e. here.rest (goes.uncontrolled k (controls e)))
        (λ e. here.empty (goes.empty k (carries e)))
        (λ at. goes.told at group.name third (group_bit after.controlled k group (is ∙ up) (controls (ap is_closing at))))
        (λ at. goes.carries at group.name third (group_bit after.carried k group (is ∙ up) (carries (ap is_closing at)))))

pub from_third : (groups : List Counter) → AreInUnitOrder groups → AreFrom 3 groups
from_third groups ordered = are_from 3 groups group_units ordered group_units-up

-- groups that have nothing to do with a point stay as they are
pub busy-senses : (groups : List Counter) (cycle : Cycle) (point : Point) (picture : Hub → Bool) (before after : Busy)
    → AreInUnitOrder groups → AreBusy before groups → BusyAfter point picture before after
    → marked_changed (sensing_of after point) 0 (λ group. counter_sensed group cycle point picture) groups
    ≡ map (λ group. counter_sensed group cycle point picture) groups
busy-senses groups cycle point picture before after ordered held goes =
    senses-from 3 0 groups cycle point picture before after (omega arith) (from_third groups ordered) held goes

-- a group at rest stays so where it is told nothing
rest-after : (group : Counter) (cycle : Cycle) (point : Point) (picture : Hub → Bool) → IsAtRest group
    → (point ≡ C → AreSilent picture group.name) → IsAtRest (counter_sensed group cycle point picture)
rest-after group cycle C picture rest silent = record {
  controls = silent-controls group.name picture (silent refl);
  entered = rest.entered;
}
rest-after group cycle (Row row) picture rest silent = record {
  controls = rest.controls;
  entered =
      ap
      (λ (c : Controls).
      if takes c (row_number row)
      then all_taken (row_number row) (λ position. picture (GE group.name position)) group.entered
      else group.entered)
      rest.controls
      ∙ rest.entered;
}
rest-after group cycle K picture rest silent = record { controls = rest.controls; entered = rest.entered }

-- one that doesn't read out doesn't where it isn't told to
silent-after : (group : Counter) (cycle : Cycle) (point : Point) (picture : Hub → Bool) → group.controls.read_out ≡ false
    → (point ≡ C → picture (RO group.name) ≡ false) → (counter_sensed group cycle point picture).controls.read_out ≡ false
silent-after group cycle C picture silent none = none refl
silent-after group cycle (Row row) picture silent none = silent
silent-after group cycle K picture silent none = silent

-- one that is under no balance test is under none where it isn't told to be
untested-after : (group : Counter) (cycle : Cycle) (point : Point) (picture : Hub → Bool) → group.controls.test ≡ false
    → (point ≡ C → picture (BT group.name) ≡ false) → (counter_sensed group cycle point picture).controls.test ≡ false
untested-after group cycle C picture untested none = none refl
untested-after group cycle (Row row) picture untested none = untested
untested-after group cycle K picture untested none = untested

-- and one without a carry has none where none comes in
empty-after : (group : Counter) (cycle : Cycle) (point : Point) (picture : Hub → Bool) → group.carry ≡ false
    → (point ≡ K → picture (CI group.name) ≡ false) → (counter_sensed group cycle point picture).carry ≡ false
empty-after group cycle C picture empty none = empty
empty-after group cycle (Row row) picture empty none = empty
empty-after group cycle K picture empty none = none refl

after-from : (n k : ℕ) (groups : List Counter) (cycle : Cycle) (point : Point) (picture : Hub → Bool) (before after : Busy)
    → n ≡ 3 + k → AreFrom n groups → HaveNoMore before k groups → BusyAfter point picture before after
    → HaveNoMore after k (map (λ group. counter_sensed group cycle point picture) groups)
after-from n k [] cycle point picture before after up from held goes = tt
after-from n k (group ∷ groups) cycle point picture before after up (is, from) (here, others) goes =
    let third : 3 ≤ counter_number group = omega (arith, is, up) in (
      record {
        lawful = counters-stay.sensed group cycle point picture here.lawful;
        rest = λ off.
            rest-after group cycle point picture (here.rest (goes.uncontrolled k off))
            (λ at. goes.told at group.name third (group_bit after.controlled k group (is ∙ up) off));
        silent = λ off.
            silent-after group cycle point picture (here.silent (goes.unread k off))
            (λ at. goes.read_out at group.name third (group_bit after.reading_out k group (is ∙ up) off));
        untested = λ off.
            untested-after group cycle point picture (here.untested (goes.untested k off))
            (λ at. goes.tests at group.name third (group_bit after.tested k group (is ∙ up) off));
        empty = λ off.
            empty-after group cycle point picture (here.empty (goes.empty k off))
            (λ at. goes.carries at group.name third (group_bit after.carried k group (is ∙ up) off));
      },
      after-from (suc n) (suc k) groups cycle point picture before after (omega (arith, up)) from others goes,
    )

-- what groups may have to do after a point
pub busy-after : (groups : List Counter) (cycle : Cycle) (point : Point) (picture : Hub → Bool) (before after : Busy)
    → AreInUnitOrder groups → AreBusy before groups → BusyAfter point picture before after
    → AreBusy after (map (λ group. counter_sensed group cycle point picture) groups)
busy-after groups cycle point picture before after ordered held goes =
    after-from 3 0 groups cycle point picture before after (omega arith) (from_third groups ordered) held goes

-- at the control point and at rows the groups sense that may be under a control, at the closing point those into which a carry may come
pub control-senses : (groups new : List Counter) (cycle : Cycle) (picture : Hub → Bool) (before after : Busy) → AreInUnitOrder groups
    → AreBusy before groups → BusyAfter C picture before after
    → new ≡ marked_changed after.controlled 0 (λ group. counter_sensed group cycle C picture) groups
    → (new ≡ map (λ group. counter_sensed group cycle C picture) groups) × AreBusy after new
control-senses groups new cycle picture before after ordered held goes is =
    let sensed = is ∙ busy-senses groups cycle C picture before after ordered held goes in
    (sensed, subst (AreBusy after) (sym sensed) (busy-after groups cycle C picture before after ordered held goes))

pub row-senses : (groups new : List Counter) (cycle : Cycle) (point : Point) (row : CardRow) (picture : Hub → Bool) (busy : Busy) → point ≡ Row row
    → AreInUnitOrder groups → AreBusy busy groups
    → new ≡ marked_changed busy.controlled 0 (λ group. counter_sensed group cycle point picture) groups
    → (new ≡ map (λ group. counter_sensed group cycle point picture) groups) × AreBusy busy new
row-senses groups new cycle point row picture busy at ordered held =
    subst
    (λ (p : Point). new ≡ marked_changed busy.controlled 0 (λ group. counter_sensed group cycle p picture) groups
    → (new ≡ map (λ group. counter_sensed group cycle p picture) groups) × AreBusy busy new)
    (sym at) here
  where
    goes : BusyAfter (Row row) picture busy busy
    goes = record {
      uncontrolled = λ k off. off;
      told = λ never. cc;
      unread = λ k off. off;
      read_out = λ never. cc;
      untested = λ k off. off;
      tests = λ never. cc;
      empty = λ k off. off;
      carries = λ never. cc;
    }

    here : new ≡ marked_changed busy.controlled 0 (λ group. counter_sensed group cycle (Row row) picture) groups
        → (new ≡ map (λ group. counter_sensed group cycle (Row row) picture) groups) × AreBusy busy new
    here is =
        let sensed = is ∙ busy-senses groups cycle (Row row) picture busy busy ordered held goes in
        (sensed, subst (AreBusy busy) (sym sensed) (busy-after groups cycle (Row row) picture busy busy ordered held goes))

pub closing-senses : (groups new : List Counter) (cycle : Cycle) (point : Point) (picture : Hub → Bool) (before after : Busy) → point ≡ K
    → AreInUnitOrder groups → AreBusy before groups → BusyAfter K picture before after
    → new ≡ marked_changed after.carried 0 (λ group. counter_sensed group cycle point picture) groups
    → (new ≡ map (λ group. counter_sensed group cycle point picture) groups) × AreBusy after new
closing-senses groups new cycle point picture before after at ordered held goes =
    subst
    (λ (p : Point). new ≡ marked_changed after.carried 0 (λ group. counter_sensed group cycle p picture) groups
    → (new ≡ map (λ group. counter_sensed group cycle p picture) groups) × AreBusy after new)
    (sym at) here
  where
    here : new ≡ marked_changed after.carried 0 (λ group. counter_sensed group cycle K picture) groups
        → (new ≡ map (λ group. counter_sensed group cycle K picture) groups) × AreBusy after new
    here is =
        let sensed = is ∙ busy-senses groups cycle K picture before after ordered held goes in
        (sensed, subst (AreBusy after) (sym sensed) (busy-after groups cycle K picture before after ordered held goes))

-- a group at rest, into which no carry came, ends the cycle as it is
rest-ends : (group : Counter) (cycle : Cycle) → IsCounter group → IsAtRest group → group.carry ≡ false → counter_ended group cycle ≡ group
rest-ends group cycle lawful rest empty = λ i.
    record group {
      digits =
          (ap (λ (carry : Bool). turned (wheels_in group) carry) empty
          ∙ idle-turned group.controls group.digits group.entered (ap (λ (c : Controls). c.read_out) rest.controls)
          (ap (λ (c : Controls). c.minus) rest.controls) (ap (λ (c : Controls). c.plus) rest.controls) lawful.digits
          (lawful.positions ∙ sym lawful.entries))
          i;
      entered = sym rest.entered i;
      carry = sym empty i;
      controls = sym rest.controls i;
      latch = ap (λ (c : Controls). if c.test then top_is_nine (digits_ended group) else group.latch) rest.controls i;
    }

ends-from : (marks : ℕ) (busy : Busy) (k : ℕ) (groups : List Counter) (cycle : Cycle)
    → ((j : ℕ) → is_bit marks j ≡ (is_bit busy.controlled j || is_bit busy.carried j)) → HaveNoMore busy k groups
    → marked_changed marks k (λ group. counter_ended group cycle) groups ≡ map (λ group. counter_ended group cycle) groups
ends-from marks busy k [] cycle are held = refl
ends-from marks busy k (group ∷ groups) cycle are (here, others) =
    ap (λ (g : Counter). g ∷ marked_changed marks (suc k) (λ group. counter_ended group cycle) groups)
    (by (is_bit marks k) (is_bit busy.controlled k) (is_bit busy.carried k) (are k) here.rest here.empty)
    ∙ ap (λ (gs : List Counter). counter_ended group cycle ∷ gs) (ends-from marks busy (suc k) groups cycle are others)
  where
    by : (b controlled carried : Bool) → b ≡ (controlled || carried) → (controlled ≡ false → IsAtRest group)
        → (carried ≡ false → group.carry ≡ false) → (if b then counter_ended group cycle else group) ≡ counter_ended group cycle
    by true controlled carried is rest empty = refl
    by false false false is rest empty = sym (rest-ends group cycle here.lawful (rest refl) (empty refl))
    by false true carried is rest empty = cc
    by false false true is rest empty = cc

-- groups that had nothing to do end the cycle as they are
pub busy-ends : (marks : ℕ) (busy : Busy) (groups : List Counter) (cycle : Cycle)
    → ((j : ℕ) → is_bit marks j ≡ (is_bit busy.controlled j || is_bit busy.carried j)) → AreBusy busy groups
    → marked_changed marks 0 (λ group. counter_ended group cycle) groups ≡ map (λ group. counter_ended group cycle) groups
busy-ends marks busy groups cycle are held = ends-from marks busy 0 groups cycle are held

-- controls, carries and what was entered end with the cycle
ended-from : (k : ℕ) (groups : List Counter) (cycle : Cycle) (before busy : Busy) → HaveNoMore before k groups
    → HaveNoMore busy k (map (λ group. counter_ended group cycle) groups)
ended-from k [] cycle before busy held = tt
ended-from k (group ∷ groups) cycle before busy (here, others) = (
  record {
    lawful = counters-stay.ended group cycle here.lawful;
    rest = λ off. record { controls = refl; entered = refl };
    silent = λ off. refl;
    untested = λ off. refl;
    empty = λ off. refl;
  },
  ended-from (suc k) groups cycle before busy others,
)

pub ended-busy : (groups : List Counter) (cycle : Cycle) (before busy : Busy) → AreBusy before groups
    → AreBusy busy (map (λ group. counter_ended group cycle) groups)
ended-busy groups cycle before busy held = ended-from 0 groups cycle before busy held

-- the units of counter groups
abbrev AreGroups : List ℕ → Type 0
AreGroups [] = Unit {0}
AreGroups (unit ∷ units) = (nat_le 3 unit ≡ true) × (nat_le unit 34 ≡ true) × AreGroups units

start-from : (k : ℕ) (units : List ℕ) (busy : Busy) → AreGroups units → HaveNoMore busy k (map counter_at_start units)
start-from k [] busy all = tt
start-from k (unit ∷ units) busy (from, to, all) = (
  record {
    lawful = counters-stay.start unit (grind (arith, nat_tests, from)) (grind (arith, nat_tests, to));
    rest = λ off. record { controls = refl; entered = refl };
    silent = λ off. refl;
    untested = λ off. refl;
    empty = λ off. refl;
  },
  start-from (suc k) units busy all,
)

pub start-busy : (busy : Busy) → AreBusy busy (map counter_at_start group_units)
start-busy busy = start-from 0 group_units busy groups where
  groups : AreGroups group_units
  groups = search rules

abbrev pub first_group : Group
first_group = record { width = 3; number = 1 }

-- The control hubs of all groups are the 128 from the first one on.
near : (place : Option ℕ) (before : ℕ) → 1268 ≤ before → before ≤ 1364 → 3 ≤ unit_after 2 place → unit_after 2 place < 35
    → is_near (Some 1269) (option_map (λ p. before + p) place) ≡ true
near None before low high from to = absurd (omega (arith, from))
near (Some p) before low high from to = grind (arith, nat_tests, low, high, from, to)

-- the bit of a group in a row of hubs, by how many places its hub is after the first
row_bit : (bits start before k : ℕ) (place : Option ℕ) → 3 ≤ unit_after 2 place → before + unit_after 2 place ≡ start + k + 2
    → is_bit_from (Some start) bits (option_map (λ p. before + p) place) ≡ is_bit bits k
row_bit bits start before k None from is = absurd (omega (arith, from))
row_bit bits start before k (Some p) from is =
    let place : before + p - start ≡ k = omega (arith, is) in
    let on : nat_le start (before + p) ≡ true = grind (arith, nat_tests, is) in
    ap (λ (b : Bool). b && is_bit bits (before + p - start)) on ∙ ap (is_bit bits) place

hub-at : (picture : Hub → Bool) (bits : ℕ) (first hub : Hub) (start before k : ℕ) (place : Option ℕ) → number_of first ≡ Some start
    → number_of hub ≡ option_map (λ p. before + p) place → 3 ≤ unit_after 2 place → before + unit_after 2 place ≡ start + k + 2
    → IsRowOf first picture bits → is_near (Some start) (option_map (λ p. before + p) place) ≡ true → picture hub ≡ is_bit bits k
hub-at picture bits first hub start before k place numbered also from is row reach =
    sym (row hub (ap (λ n. is_near n (number_of hub)) numbered ∙ ap (is_near (Some start)) also ∙ reach))
    ∙ ap (λ n. is_bit_from n bits (number_of hub)) numbered ∙ ap (is_bit_from (Some start) bits) also
    ∙ row_bit bits start before k place from is

-- the bits of a row in its four parts, as code joins them
pub four_parts : (row k : ℕ)
    → is_bit (bit_or (bit_or row (row / 2 ^ 64)) (bit_or row (row / 2 ^ 64) / 2 ^ 32)) k
    ≡ ((is_bit row k || is_bit row (64 + k)) || (is_bit row (32 + k) || is_bit row (64 + (32 + k))))
four_parts row k =
    is_bit-or (bit_or row (row / 2 ^ 64)) (bit_or row (row / 2 ^ 64) / 2 ^ 32) k
    ∙ ap (λ b. b || is_bit (bit_or row (row / 2 ^ 64) / 2 ^ 32) k) (pair k)
    ∙ ap (λ b. (is_bit row k || is_bit row (64 + k)) || b) (is_bit-shr (bit_or row (row / 2 ^ 64)) 32 k ∙ pair (32 + k))
  where
    pair : (j : ℕ) → is_bit (bit_or row (row / 2 ^ 64)) j ≡ (is_bit row j || is_bit row (64 + j))
    pair j = is_bit-or row (row / 2 ^ 64) j ∙ ap (λ b. is_bit row j || b) (is_bit-shr row 64 j)

-- the low 32 bits, as code takes them
pub is_bit-low_half : (word k : ℕ) → k < 32 → is_bit (bit_and word 0xffff_ffff) k ≡ is_bit word k
is_bit-low_half word k low = ap (λ m. is_bit m k) (and_mask word 32) ∙ is_bit-low word 32 k low

-- the groups that are told are those with a bit in one of the four parts of the row
pub told-marked : (picture : Hub → Bool) (bits marks : ℕ)
    → ((k : ℕ) → k < 32
    → is_bit marks k ≡ ((is_bit bits k || is_bit bits (64 + k)) || (is_bit bits (32 + k) || is_bit bits (64 + (32 + k)))))
    → IsRowOf (PL first_group) picture bits → AreToldMarked marks picture
told-marked picture bits marks are row name from off =
    let place = group_place name.width name.number in
    let last = unit_of-last name in
    let k = unit_of name - 3 in
    let u = unit_of name in
    let parts = none_of_four (is_bit bits k) (is_bit bits (64 + k)) (is_bit bits (32 + k)) (is_bit bits (64 + (32 + k)))
    (sym (are k (omega (arith, from, last))) ∙ off) in
    let plus : 1268 + u ≡ 1269 + k + 2 = omega (arith, from) in
    let minus : 1300 + u ≡ 1269 + (32 + k) + 2 = omega (arith, from) in
    let read_out : 1332 + u ≡ 1269 + (64 + k) + 2 = omega (arith, from) in
    let test : 1364 + u ≡ 1269 + (64 + (32 + k)) + 2 = omega (arith, from) in
    record {
      plus =
          hub-at picture bits (PL first_group) (PL name) 1269 1268 k place refl refl from plus row
          (near place 1268 (omega arith) (omega arith) from last)
          ∙ parts.0;
      minus =
          hub-at picture bits (PL first_group) (MI name) 1269 1300 (32 + k) place refl refl from minus row
          (near place 1300 (omega arith) (omega arith) from last)
          ∙ parts.2;
      read_out =
          hub-at picture bits (PL first_group) (RO name) 1269 1332 (64 + k) place refl refl from read_out row
          (near place 1332 (omega arith) (omega arith) from last)
          ∙ parts.1;
      test =
          hub-at picture bits (PL first_group) (BT name) 1269 1364 (64 + (32 + k)) place refl refl from test row
          (near place 1364 (omega arith) (omega arith) from last)
          ∙ parts.3;
    }
  where
    none_of_four : (a b c d : Bool) → ((a || b) || (c || d)) ≡ false
        → (a ≡ false) × (b ≡ false) × (c ≡ false) × (d ≡ false)
    none_of_four false false false false e = (refl, refl, refl, refl)
    none_of_four a b c d e = cc

-- a hub of a group whose bit is not set, where the bits are those of the row of control hubs from one of the first group's on
pub control-unmarked : (picture : Hub → Bool) (bits marks shift before : ℕ) (hub : Hub) (name : Group)
    → number_of hub ≡ option_map (λ p. before + p) (group_place name.width name.number) → before ≡ 1268 + shift → shift ≤ 96
    → ((k : ℕ) → k < 32 → is_bit marks k ≡ is_bit bits (shift + k)) → IsRowOf (PL first_group) picture bits
    → 3 ≤ unit_of name → is_bit marks (unit_of name - 3) ≡ false → picture hub ≡ false
control-unmarked picture bits marks shift before hub name numbered shifted few are row from off =
    let place = group_place name.width name.number in
    let last = unit_of-last name in
    let k = unit_of name - 3 in
    let u = unit_of name in
    let here : before + u ≡ 1269 + (shift + k) + 2 = omega (arith, from, shifted) in
    hub-at picture bits (PL first_group) hub 1269 before (shift + k) place refl numbered from here row
    (near place before (omega (arith, shifted)) (omega (arith, shifted, few)) from last)
    ∙ sym (are k (omega (arith, from, last))) ∙ off

-- The hubs of one kind of all groups are within reach of the first one's.
near_first : (before : ℕ) (place : Option ℕ) → 3 ≤ unit_after 2 place → unit_after 2 place < 35
    → is_near (Some (before + 1)) (option_map (λ p. before + p) place) ≡ true
near_first before None from to = absurd (omega (arith, from))
near_first before (Some p) from to = grind (arith, nat_tests, from, to)

-- a hub of a group whose bit is not set, where the bits are those of the row from the first group's hub on
unmarked : (set : HubSet) (bits marks before : ℕ) (first hub : Hub) (name : Group) → number_of first ≡ Some (before + 1)
    → number_of hub ≡ option_map (λ p. before + p) (group_place name.width name.number)
    → ((k : ℕ) → k < 32 → is_bit marks k ≡ is_bit bits k)
    → ((other : Hub) → is_in_reach first other ≡ true → is_in_row first bits other ≡ has_hub set other)
    → 3 ≤ unit_of name → is_bit marks (unit_of name - 3) ≡ false → has_hub set hub ≡ false
unmarked set bits marks before first hub name numbered also are row from off =
    let place = group_place name.width name.number in
    let last = unit_of-last name in
    let u = unit_of name in
    let here : before + u ≡ before + 1 + (u - 3) + 2 = omega (arith, from) in
    hub-at (has_hub set) bits first hub (before + 1) before (u - 3) place numbered also from here row (near_first before place from last)
    ∙ sym (are (u - 3) (omega (arith, from, last))) ∙ off

-- the carries that come in are the bits of the row from the first carry entry on
pub carries-marked : (set : HubSet) (bits marks : ℕ) → ((k : ℕ) → k < 32 → is_bit marks k ≡ is_bit bits k)
    → ((hub : Hub) → is_in_reach (CI first_group) hub ≡ true → is_in_row (CI first_group) bits hub ≡ has_hub set hub)
    → AreCarriesMarked marks (has_hub set)
carries-marked set bits marks are row name from off =
    unmarked set bits marks 1396 (CI first_group) (CI name) name refl refl are row from off

-- no carry comes to a group that stands at nines where no group whose carry is marked does
pub none-nines : (marks : ℕ) (picture : Hub → Bool) (nines : List Bool) → AreCarriesMarked marks picture → AreApart marks nines
    → ComeToNoNines picture nines
none-nines marks picture nines marked apart name from on = by (is_bit marks (unit_of name - 3)) refl where
  by : (b : Bool) → is_bit marks (unit_of name - 3) ≡ b → is_nines nines name ≡ false
  by true is = apart (unit_of name - 3) is
  by false is = absurd (false≢true (sym (marked name from is) ∙ on))

-- what a list of tests tells at a place is what the thing there tells
pub told-at : (tells : Counter → Bool) (groups : List Counter) (place : ℕ) (group default : Counter) → place < length groups
    → get_or groups place default ≡ group → get_or (map tells groups) place false ≡ tells group
told-at tells [] place group default within is = absurd (omega (arith, within))
told-at tells (first ∷ groups) zero group default within is = ap tells is
told-at tells (first ∷ groups) (suc place) group default within is = told-at tells groups place group default (omega (arith, within)) is

-- and past the last thing it tells nothing
pub told-past : (tells : Counter → Bool) (groups : List Counter) (place : ℕ) → length groups ≤ place → get_or (map tells groups) place false ≡ false
told-past tells [] place past = refl
told-past tells (first ∷ groups) zero past = absurd (omega (arith, past))
told-past tells (first ∷ groups) (suc place) past = told-past tells groups place (omega (arith, past))

-- the places but those of the bits that are left haven't both their bits and their tests
abbrev pub AreApartBut : ℕ → ℕ → List Bool → Type 0
AreApartBut left bits tests = (place : ℕ) → is_bit bits place ≡ true → is_bit left place ≡ false → slice_index_or tests place false ≡ false

pub apart-taken : (left less bits place : ℕ) (tests : List Bool) → IsTaken left less place → AreApartBut left bits tests
    → slice_index_or tests place false ≡ false → AreApartBut less bits tests
apart-taken left less bits place tests taken before here k on off = by (is_bit left k) refl where
  equal : (a : Bool) (k place : ℕ) → a ≡ true → (a && not (k == place)) ≡ false → k ≡ place
  equal a k place e f = grind (arith, nat_tests, e, f)

  by : (b : Bool) → is_bit left k ≡ b → slice_index_or tests k false ≡ false
  by false is = before k on is
  by true is =
      ap (λ (p : ℕ). slice_index_or tests p false) (equal (is_bit left k) k place is (sym (taken k) ∙ off)) ∙ here

pub apart-start : (bits : ℕ) (tests : List Bool) → AreApartBut bits bits tests
apart-start bits tests place on off = absurd (false≢true (sym off ∙ on))

pub apart-end : (left bits : ℕ) (tests : List Bool) → left ≡ 0 → AreApartBut left bits tests → AreApart bits tests
apart-end left bits tests none apart place on = apart place on (ap (λ n. is_bit n place) none ∙ is_bit-zero place)

-- a bit that two words joined don't have
pub neither : (a b k : ℕ) → is_bit (bit_or a b) k ≡ false → (is_bit a k ≡ false) × (is_bit b k ≡ false)
neither a b k off = both _ _ (sym (is_bit-or a b k) ∙ off) where
  both : (x y : Bool) → (x || y) ≡ false → (x ≡ false) × (y ≡ false)
  both false false e = (refl, refl)
  both x y e = cc
