-- What contacts that are passed add to a set, with what the rows of their exits lead to.
use Rattle.std.specs.Prelude.{◌≡◌, ℕ, ◌<◌, ◌≤◌, ◌⊎◌, Bool, true, false, List, length, slice_index_or}
use Rattle.machine_sets.specs.BitSets.Bits.{has_place}
use Rattle.machine_sets.specs.BitSets.Contacts.{is_contact}
use Rattle.machine_sets.specs.BitSets.Reached.{IsReached}
use Rattle.machine_sets.specs.BitSets.Rows.{leads}
use Rattle.machine_sets.specs.declared.bit_sets.contacts.Run.{Run}

-- new has what old has, each place of the test and what these places lead to, and no more; what they lead to leads nowhere
pub record GainsPassed (rows : List (List ℕ)) (test : ℕ → Bool) (old new : List ℕ) : Type 0 where
  pub kept : (place : ℕ) → has_place old place ≡ true → has_place new place ≡ true
  pub passed : (place : ℕ) → test place ≡ true → has_place new place ≡ true
  pub led : (from to : ℕ) → test from ≡ true → leads rows from to ≡ true → has_place new to ≡ true
  pub only :
      (to : ℕ) → has_place new to ≡ true
      → (has_place old to ≡ true) ⊎ ((test to ≡ true) ⊎ ((from : ℕ) × (test from ≡ true) × (leads rows from to ≡ true)))
  pub last : (from to next : ℕ) → test from ≡ true → leads rows from to ≡ true → leads rows to next ≡ false

-- Contacts of the runs from one number to another are passed: the set gains only what is reached, it has what the rows of its places
-- lead to where it had that before, and the answer tells whether it gained any. Where it gained none, none of these contacts leads out of it.
pub record IsPassedOn (rows : List (List ℕ)) (runs : List Run) (closed : List ℕ) (first end : ℕ) (old new : List ℕ) (has_passed : Bool) : Type 0 where
  pub kept : (place : ℕ) → has_place old place ≡ true → has_place new place ≡ true
  pub sound :
      (emits : List ℕ) → ((place : ℕ) → has_place old place ≡ true → IsReached rows runs emits closed place)
      → (place : ℕ) → has_place new place ≡ true → IsReached rows runs emits closed place
  pub joined :
      ((from to : ℕ) → has_place old from ≡ true → leads rows from to ≡ true → has_place old to ≡ true)
      → (from to : ℕ) → has_place new from ≡ true → leads rows from to ≡ true → has_place new to ≡ true
  pub some : has_passed ≡ true → (place : ℕ) × (has_place new place ≡ true) × (has_place old place ≡ false)
  pub same : has_passed ≡ false → (place : ℕ) → has_place new place ≡ true → has_place old place ≡ true
  pub done :
      has_passed ≡ false → (number : ℕ) (default : Run) → first ≤ number → number < end → number < length runs
      → (from to : ℕ) → has_place old from ≡ true → is_contact (slice_index_or runs number default) from to ≡ true
      → has_place closed to ≡ true → has_place old to ≡ true
