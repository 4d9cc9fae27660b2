-- The carries of groups by the wires of the panel, at the closing point. A group's carry exit emits the carry that leaves its
-- wheels by themselves, and the contact from its carry entry to its carry exit is closed where all of them stand at 9. Wired to its
-- own carry entry, a group is a ring; two groups are coupled by the wire from the carry exit of the lower one to the carry entry of
-- the upper one, and in a ring by the wire back as well.
use Rattle.std.specs.Prelude.{◌≡◌, Bool, true, false, List, ◌++◌}
use Rattle.hubs.specs.Hubs.{is_hub_in_range}
use Rattle.hubs.specs.declared.hub.Group.{Group}
use Rattle.hubs.specs.declared.hub.Hub.{Hub}
use Rattle.hubs.specs.declared.hub.Hub.TheVariants.{CI, CO}
use Rattle.net.specs.Impulsed.{IsPicture}
use Rattle.hubs.specs.SetupsWords.Wiring.{HasWire, LeadsToEntries, Wiring, is_wired}
use Rattle.counters.specs.Wheels.{Wheel, all_nines, carries_in, carries_out}

-- At the carry hubs of a group its wheels alone emit and close contacts.
pub record CarriesBy (exits closed : Hub → Bool) (name : Group) (wheels : List Wheel) : Type 0 where
  pub there : is_hub_in_range (CO name) ≡ true
  pub emits : exits (CO name) ≡ carries_out wheels false
  pub closes : closed (CO name) ≡ all_nines wheels
  pub enters : exits (CI name) ≡ false

-- no wire leads to the carry entry of a group but one from the carry exit of a group, the same or another one
abbrev pub IsFedAlone : Wiring → Group → Group → Type 0
IsFedAlone wiring from to = (exit : Hub) → HasWire wiring exit (CI to) → exit ≡ CO from

-- The carry entry of a group that nothing else feeds is impulsed as in a ring where it is wired to its own carry exit, and else not.
abbrev pub WiredGroupsAreRings : Type 0
WiredGroupsAreRings =
    (wiring : Wiring) (exits closed picture : Hub → Bool) (name : Group) (wheels : List Wheel)
    → LeadsToEntries wiring
    → IsPicture wiring exits closed picture
    → CarriesBy exits closed name wheels
    → IsFedAlone wiring name name
    → picture (CI name) ≡ carries_in (is_wired wiring (CO name) (CI name)) wheels

-- The carry entries of two groups through which one carry goes, as AreCoupled has it of the groups.
pub record CarryThrough (is_ring : Bool) (picture : Hub → Bool) (upper lower : Group) (above below : List Wheel) : Type 0 where
  pub into_lower : picture (CI lower) ≡ carries_in is_ring (above ++ below)
  pub into_upper : picture (CI upper) ≡ carries_out below (picture (CI lower))

-- Two groups are coupled by the wire from the lower to the upper one, and form a ring where the wire back is there too.
abbrev pub WiredPairsAreCoupled : Type 0
WiredPairsAreCoupled =
    (wiring : Wiring) (exits closed picture : Hub → Bool) (upper lower : Group) (above below : List Wheel)
    → LeadsToEntries wiring
    → IsPicture wiring exits closed picture
    → CarriesBy exits closed upper above
    → CarriesBy exits closed lower below
    → IsFedAlone wiring lower upper
    → IsFedAlone wiring upper lower
    → is_wired wiring (CO lower) (CI upper) ≡ true
    → CarryThrough (is_wired wiring (CO upper) (CI lower)) picture upper lower above below
