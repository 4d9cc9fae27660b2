-- Runs of contacts: from a common place and those after it to an exit place and those after it, one by one.
use Rattle.std.specs.Prelude.{◌≡◌, ℕ, ◌+◌, ◌-◌, ◌<◌, ◌≤◌, ◌==◌, ◌&&◌, ◌||◌, not, nat_le, nat_lt, Bool, true, false, List, [], ◌∷◌}
use Rattle.machine_sets.specs.BitSets.Bits.{has_place}
use Rattle.machine_sets.specs.declared.bit_sets.contacts.Run.{Run}

-- whether a contact of the run leads from one place to another
abbrev pub is_contact : Run → ℕ → ℕ → Bool
is_contact run from to =
    nat_le run.exits to && (nat_lt (to - run.exits) run.count && (from == run.common + (to - run.exits)))

-- whether a contact of the runs leads from one place to another
abbrev pub is_any_contact : List Run → ℕ → ℕ → Bool
is_any_contact [] from to = false
is_any_contact (run ∷ runs) from to = is_contact run from to || is_any_contact runs from to

-- whether a closed contact of the run leads to a place that the set does not have, from one that it has
abbrev pub passes_run : List ℕ → List ℕ → Run → ℕ → Bool
passes_run closed hubs run to =
    nat_le run.exits to
    && (nat_lt (to - run.exits) run.count
    && (has_place closed to && (has_place hubs (run.common + (to - run.exits)) && not (has_place hubs to))))

-- the run's first places are among those of a set, and it has at most 128 contacts
pub record IsRunInRange (run : Run) : Type 0 where
  pub exits : run.exits < 1984
  pub common : run.common < 1984
  pub count : run.count ≤ 128

-- each place of a set that a contact of the runs leads from is among these
abbrev pub AreCommons : List Run → List ℕ → Type 0
AreCommons runs commons =
    (from to : ℕ) → from < 1984 → is_any_contact runs from to ≡ true → has_place commons from ≡ true

-- a contact of the runs leads from each of these places
abbrev pub AreOnlyCommons : List Run → List ℕ → Type 0
AreOnlyCommons runs commons = (from : ℕ) → has_place commons from ≡ true → (to : ℕ) × (is_any_contact runs from to ≡ true)

-- two sets have no place in common
abbrev pub ArePlacesApart : List ℕ → List ℕ → Type 0
ArePlacesApart one other = (place : ℕ) → has_place one place ≡ true → has_place other place ≡ false

-- two sets have a place in common
abbrev pub ShareAPlace : List ℕ → List ℕ → Type 0
ShareAPlace one other = (place : ℕ) × (has_place one place ≡ true) × (has_place other place ≡ true)
