-- Setups in which carries go round single groups alone. There each group that is wired to itself turns as a ring by itself, every
-- other one on the line, and no carry is seen anywhere else.
use Rattle.std.specs.Prelude.{◌≡◌, ◌↔◌, Bool, true, false, Option, Some, None, map, if◌then◌else◌}
use Rattle.counters.specs.Counters.{Counter, counter_ended, top_is_nine, wheels_in}
use Rattle.counters.specs.Wheels.{turned_round}
use Rattle.hubs.specs.SetupsWords.Wiring.{HasWire, LeadsToEntries, Wiring, is_wired}
use Rattle.hubs.specs.Carries.{is_one_group}
use Rattle.hubs.specs.Hubs.{carry_into, carry_out_of}
use Rattle.hubs.specs.declared.hub.Group.{Group}
use Rattle.hubs.specs.declared.hub.Hub.{Hub}
use Rattle.hubs.specs.declared.hub.Hub.TheVariants.{CI, CO}
use Rattle.net.specs.Impulsed.{IsImpulsed}
use Rattle.net.specs.declared.cycle.Cycle.{Cycle}
use Rattle.net.specs.declared.cycle.Point.{Point}
use Rattle.net.specs.declared.cycle.Point.TheVariants.{K}
use Rattle.machine.specs.Machine.{MachineState, closes}
use Rattle.proof_cycles.specs.WholeCycles.Between.{IsBetween}
use Rattle.proof_cycles.specs.WholeCycles.Carries.{but_carries, is_carry}
use Rattle.proof_cycles.specs.WholeCycles.WholeCycles.{WholeCycle, before_closing, closing_emits}

-- whether two counter groups, if there are any, are one: none is the same as none
abbrev pub is_same_group : Option Group → Option Group → Bool
is_same_group (Some one) (Some other) = is_one_group one other
is_same_group None None = true
is_same_group one other = false

-- whether a wire joins no two groups: a carry exit leads to the carry entry of its own group alone, and that is fed by it alone
abbrev pub keeps_ring : Hub → Hub → Bool
keeps_ring exit entry = is_same_group (carry_out_of exit) (carry_into entry)

-- every wire from or to a carry hub leads from the carry exit of a group to the carry entry of the same group
abbrev pub JoinsNoGroups : Wiring → Type 0
JoinsNoGroups wiring = (exit entry : Hub) → HasWire wiring exit entry → keeps_ring exit entry ≡ true

-- a group after a cycle in which its wheels turn by themselves, as a ring or on the line
abbrev pub after_turning : Bool → Cycle → (Point → Hub → Bool) → Counter → Counter
after_turning is_ring cycle pictures group =
    let before = before_closing cycle pictures group in
    let digits = turned_round is_ring (wheels_in before) in
    record (counter_ended before cycle) {
      digits = digits;
      latch = if before.controls.test then top_is_nine digits else before.latch;
    }

-- In a cycle groups turn by themselves, and all hubs but those of carries are impulsed at the closing point as if no carry passed.
pub record TurnByThemselves (wiring : Wiring) (cycle : Cycle) (old new : MachineState) (pictures : Point → Hub → Bool) : Type 0 where
  pub groups :
      new.groups
      ≡ map (λ group. after_turning (is_wired wiring (CO group.name) (CI group.name)) cycle pictures group) old.groups
  pub others :
      (hub : Hub) → is_carry hub ≡ false
      → (pictures K hub ≡ true) ↔ IsImpulsed wiring (closing_emits pictures cycle) (but_carries (closes old cycle K)) hub

-- Where no two groups are joined, each group that is wired to itself is a ring by itself.
abbrev pub RingsTurnByThemselves : Type 0
RingsTurnByThemselves =
    (wiring : Wiring) (cycle : Cycle) (old new : MachineState) (whole : WholeCycle wiring cycle old new)
    → LeadsToEntries wiring
    → JoinsNoGroups wiring
    → IsBetween old
    → TurnByThemselves wiring cycle old new whole.pictures
