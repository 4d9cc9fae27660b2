-- Reached places: those that emit, and those to which a row or a closed contact leads from a reached place.
use Rattle.std.specs.Prelude.{◌≡◌, ℕ, true, List}
use Rattle.machine_sets.specs.BitSets.Bits.{has_place}
use Rattle.machine_sets.specs.BitSets.Contacts.{is_any_contact}
use Rattle.machine_sets.specs.BitSets.Rows.{leads}
use Rattle.machine_sets.specs.declared.bit_sets.contacts.Run.{Run}

-- A place is reached where it emits, or where a row or a closed contact leads to it from a reached place.
pub data IsReached (rows : List (List ℕ)) (runs : List Run) (emits closed : List ℕ) : ℕ → Type 0 where
  emitting : (place : ℕ) → has_place emits place ≡ true → IsReached rows runs emits closed place
  by_row :
      (from to : ℕ) → IsReached rows runs emits closed from → leads rows from to ≡ true
      → IsReached rows runs emits closed to
  by_contact :
      (from to : ℕ) → IsReached rows runs emits closed from → is_any_contact runs from to ≡ true
      → has_place closed to ≡ true → IsReached rows runs emits closed to
