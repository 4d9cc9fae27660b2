-- The carries of a whole cycle: they pass at its closing point, and keep apart from all other impulses.
use Rattle.std.specs.Prelude.{◌≡◌, ◌↔◌, ◌&&◌, not, Bool, true, false}
use Rattle.counters.specs.Counters.{wheels_in}
use Rattle.counters.specs.Rings.{CarryThrough, IsFedAlone}
use Rattle.counters.specs.WholeCycles.{ComesRound}
use Rattle.hubs.specs.SetupsWords.Wiring.{HasWire, LeadsToEntries, Wiring, is_wired}
use Rattle.hubs.specs.declared.hub.Group.{Group}
use Rattle.hubs.specs.declared.hub.Hub.{Hub}
use Rattle.hubs.specs.declared.hub.Hub.TheVariants.{CI, CO}
use Rattle.net.specs.Cycles.{is_closing}
use Rattle.net.specs.Impulsed.{IsImpulsed}
use Rattle.net.specs.declared.cycle.Cycle.{Cycle}
use Rattle.net.specs.declared.cycle.Point.{Point}
use Rattle.net.specs.declared.cycle.Point.TheVariants.{K}
use Rattle.machine.specs.Machine.{MachineState, closes}
use Rattle.proof_cycles.specs.WholeCycles.Between.{IsBetween}
use Rattle.proof_cycles.specs.WholeCycles.OneContactDeep.{AreCarriesOpen}
use Rattle.proof_cycles.specs.WholeCycles.Units.{IsGroup, group_at}
use Rattle.proof_cycles.specs.WholeCycles.WholeCycles.{IsClosingPicture, WholeCycle, before_closing, closing_emits}

-- whether a hub is the carry exit or the carry entry of a counter group
abbrev pub is_carry : Hub → Bool
is_carry (CO group) = true
is_carry (CI group) = true
is_carry other = false

-- wires from carry hubs lead to carry hubs alone
abbrev pub CarriesLeadToCarries : Wiring → Type 0
CarriesLeadToCarries wiring = (exit entry : Hub) → HasWire wiring exit entry → is_carry exit ≡ true → is_carry entry ≡ true

-- the contacts that are closed, but for those of the carries
abbrev pub but_carries : (Hub → Bool) → Hub → Bool
but_carries closed hub = not (is_carry hub) && closed hub

-- Where wires from carries lead to carries alone, all other hubs are impulsed at the closing point as if no carry passed.
abbrev pub CarriesKeepApart : Type 0
CarriesKeepApart =
    (wiring : Wiring) (old : MachineState) (pictures : Point → Hub → Bool) (cycle : Cycle)
    → CarriesLeadToCarries wiring
    → IsClosingPicture wiring old pictures cycle
    → (hub : Hub) → is_carry hub ≡ false
    → (pictures K hub ≡ true) ↔ IsImpulsed wiring (closing_emits pictures cycle) (but_carries (closes old cycle K)) hub

-- Before the closing point no carry passes from a carry entry to a carry exit.
abbrev pub CarriesWaitForTheClosingPoint : Type 0
CarriesWaitForTheClosingPoint =
    (machine : MachineState) (cycle : Cycle) (point : Point) → is_closing point ≡ false → AreCarriesOpen (closes machine cycle point)

-- Groups get their carries by their wires: a group that no other feeds as in a ring where it is wired to itself, and two groups of
-- which one is wired to the other as two groups through which one carry goes, round where the wire back is there too.
pub record CarriesComeByWires : Type 0 where
  pub single :
      (wiring : Wiring) (cycle : Cycle) (old new : MachineState) (name : Group) (whole : WholeCycle wiring cycle old new)
      → IsBetween old
      → LeadsToEntries wiring
      → IsGroup name
      → IsFedAlone wiring name name
      → ComesRound (is_wired wiring (CO name) (CI name)) (group_at old name) cycle whole.pictures
  pub pair :
      (wiring : Wiring) (cycle : Cycle) (old new : MachineState) (upper lower : Group) (whole : WholeCycle wiring cycle old new)
      → IsBetween old
      → LeadsToEntries wiring
      → IsGroup upper
      → IsGroup lower
      → IsFedAlone wiring lower upper
      → IsFedAlone wiring upper lower
      → is_wired wiring (CO lower) (CI upper) ≡ true
      → CarryThrough (is_wired wiring (CO upper) (CI lower)) (whole.pictures K) upper lower
      (wheels_in (before_closing cycle whole.pictures (group_at old upper)))
      (wheels_in (before_closing cycle whole.pictures (group_at old lower)))
