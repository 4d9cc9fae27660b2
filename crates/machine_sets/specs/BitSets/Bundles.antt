-- Wires side by side: a run of them leads from a place and those after it to another place and those after it.
use Rattle.std.specs.Prelude.{◌≡◌, ℕ, ◌+◌, ◌-◌, ◌<◌, ◌≤◌, ◌&&◌, ◌||◌, ◌⊎◌, nat_le, nat_lt, Bool, true, false, List, [], ◌∷◌, length, All}
use Rattle.machine_sets.specs.BitSets.Bits.{has_place}
use Rattle.machine_sets.specs.BitSets.Contacts.{is_contact, is_any_contact, IsRunInRange}
use Rattle.machine_sets.specs.BitSets.Rows.{leads}
use Rattle.machine_sets.specs.BitSets.Shorts.{AreShorts}
use Rattle.machine_sets.specs.declared.bit_sets.contacts.Run.{Run}
use Rattle.machine_sets.specs.declared.bit_sets.shorts.Short.{Short}

-- whether a wire of the run leads to a place from one that the set has
abbrev pub follows_run : List ℕ → Run → ℕ → Bool
follows_run words run to =
    nat_le run.exits to && (nat_lt (to - run.exits) run.count && has_place words (run.common + (to - run.exits)))

-- whether a wire of the runs leads to a place from one that the set has
abbrev pub follows : List ℕ → List Run → ℕ → Bool
follows words [] to = false
follows words (run ∷ runs) to = follows_run words run to || follows words runs to

-- the rows have each wire of the run
pub record IsBundle (rows : List (List ℕ)) (run : Run) : Type 0 where
  pub in_range : IsRunInRange run
  pub wired : (from to : ℕ) → is_contact run from to ≡ true → leads rows from to ≡ true

-- each wire of the rows is in a run, or leads from a place that is kept apart
abbrev pub AreCovered : List ℕ → List Run → List (List ℕ) → Type 0
AreCovered apart runs rows =
    (from to : ℕ) → leads rows from to ≡ true → (has_place apart from ≡ true) ⊎ (is_any_contact runs from to ≡ true)

-- The rows of exits: they are those of places below 1040, they lead to places from there on and below 1984, the places with
-- a row that has any place are marked, and beside the rows stand runs of their wires, the places that have others, and the rows of
-- few words.
pub record AreRows (marked apart : List ℕ) (runs : List Run) (shorts : List Short) (rows : List (List ℕ)) : Type 0 where
  pub short : length rows ≤ 1040
  pub onward : (from to : ℕ) → leads rows from to ≡ true → 1040 ≤ to
  pub within : (from to : ℕ) → leads rows from to ≡ true → to < 1984
  pub marks : (from to : ℕ) → leads rows from to ≡ true → has_place marked from ≡ true
  pub bundled : All (IsBundle rows) runs
  pub covered : AreCovered apart runs rows
  pub shortened : AreShorts shorts rows
