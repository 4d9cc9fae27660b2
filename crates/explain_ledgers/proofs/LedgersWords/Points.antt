-- A counter group through the points of a cycle.
use Rattle.std.proofs.Common.{◌≡◌, ◌∙◌, sym, ap, subst, refl, ℕ, zero, suc, ◌<◌, Bool, List, length, map, get_or}
use Rattle.std.proofs.lemmas.List.{get_or-map, length-map}
use Rattle.hubs.specs.declared.hub.Hub.{Hub}
use Rattle.hubs.specs.SetupsWords.Wiring.{Wiring}
use Rattle.net.specs.declared.cycle.Cycle.{Cycle}
use Rattle.net.specs.declared.cycle.Point.{Point}
use Rattle.net.specs.declared.cycle.Point.TheVariants.{C, Row, K}
use Rattle.counters.specs.Counters.{Counter, counter_at_start, counter_sensed}
use Rattle.counters.specs.Laws.{IsCounter}
use Rattle.counters.proofs.Staying.{counters-stay}
use Rattle.machine.specs.Cycles.{Reached, PointStep, point_at}
use Rattle.machine.specs.Machine.{MachineState, sensed}
use Rattle.explain_ledgers.specs.LedgersWords.Ledgers.{group_at}

-- A group that has sensed points stands as it stood.
pub record Stands (old now : Counter) : Type 0 where
  pub name : now.name ≡ old.name
  pub digits : now.digits ≡ old.digits
  pub latch : now.latch ≡ old.latch
  pub lawful : IsCounter now

sensed-name : (group : Counter) (cycle : Cycle) (point : Point) (picture : Hub → Bool)
    → (counter_sensed group cycle point picture).name ≡ group.name
sensed-name group cycle C picture = refl
sensed-name group cycle (Row row) picture = refl
sensed-name group cycle K picture = refl

sensed-digits : (group : Counter) (cycle : Cycle) (point : Point) (picture : Hub → Bool)
    → (counter_sensed group cycle point picture).digits ≡ group.digits
sensed-digits group cycle C picture = refl
sensed-digits group cycle (Row row) picture = refl
sensed-digits group cycle K picture = refl

sensed-latch : (group : Counter) (cycle : Cycle) (point : Point) (picture : Hub → Bool)
    → (counter_sensed group cycle point picture).latch ≡ group.latch
sensed-latch group cycle C picture = refl
sensed-latch group cycle (Row row) picture = refl
sensed-latch group cycle K picture = refl

-- as many groups, and this one stands as it stood
pub record StandsAt (place : ℕ) (old now : MachineState) : Type 0 where
  pub many : length now.groups ≡ length old.groups
  pub stands : Stands (group_at old place) (group_at now place)

-- one point more
point-stands : (cycle : Cycle) (point : Point) (picture : Hub → Bool) (place : ℕ) (old mid now : MachineState) → place < length old.groups
    → now ≡ sensed mid cycle point picture → StandsAt place old mid → StandsAt place old now
point-stands cycle point picture place old mid now low is before =
    let sense = λ (g : Counter). counter_sensed g cycle point picture in
    let groups : now.groups ≡ map sense mid.groups = ap (λ (m : MachineState). m.groups) is in
    let within : place < length mid.groups = subst (λ (n : ℕ). place < n) (sym before.many) low in
    let here : group_at now place ≡ sense (group_at mid place) =
    ap (λ (gs : List Counter). get_or gs place (counter_at_start 3)) groups
    ∙ get_or-map sense mid.groups place (counter_at_start 3) (counter_at_start 3) within in
    record {
      many = ap length groups ∙ length-map mid.groups sense ∙ before.many;
      stands = record {
        name = ap (λ (g : Counter). g.name) here ∙ sensed-name (group_at mid place) cycle point picture ∙ before.stands.name;
        digits = ap (λ (g : Counter). g.digits) here ∙ sensed-digits (group_at mid place) cycle point picture ∙ before.stands.digits;
        latch = ap (λ (g : Counter). g.latch) here ∙ sensed-latch (group_at mid place) cycle point picture ∙ before.stands.latch;
        lawful = subst IsCounter (sym here) (counters-stay.sensed (group_at mid place) cycle point picture before.stands.lawful);
      };
    }

-- all points
pub reached-stands : (wiring : Wiring) (cycle : Cycle) (points : ℕ) (place : ℕ) (old now : MachineState) → place < length old.groups
    → IsCounter (group_at old place) → Reached wiring cycle points old now → StandsAt place old now
unfolding Reached
reached-stands wiring cycle zero place old now low lawful same =
    subst (StandsAt place old) (sym same) (record { many = refl; stands = record { name = refl; digits = refl; latch = refl; lawful = lawful } })
reached-stands wiring cycle (suc points) place old now low lawful reached =
    let step : PointStep wiring cycle (point_at points) reached.0 now = reached.2 in
    point-stands cycle (point_at points) step.picture place old reached.0 now low step.is_new
    (reached-stands wiring cycle points place old reached.0 low lawful reached.1)
