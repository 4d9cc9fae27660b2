-- Units of one kind of which some are marked by the bits of a word: the unit at place k by bit k.
use Rattle.std.specs.Prelude.{◌≡◌, ℕ, suc, ◌<◌, ◌==◌, ◌&&◌, ◌||◌, Bool, true, false, not, List, [], ◌∷◌, if◌then◌else◌}
use Rattle.net.specs.HubSets.{is_bit}

-- a word has lost a bit that it had
pub record LosesBit (old new bit : ℕ) : Type 0 where
  pub there : is_bit old bit ≡ true
  pub others : (other : ℕ) → is_bit new other ≡ (is_bit old other && not (other == bit))
  pub lower : new < old

-- whether the test is true of some marked unit, where the first of these stands at place k
abbrev pub any_marked : {X : Type 0} → ℕ → ℕ → (X → Bool) → List X → Bool
any_marked marks k test [] = false
any_marked marks k test (unit ∷ units) = (is_bit marks k && test unit) || any_marked marks (suc k) test units

-- the units with each marked one changed, where the first of these stands at place k
abbrev pub marked_changed : {X : Type 0} → ℕ → ℕ → (X → X) → List X → List X
marked_changed marks k change [] = []
marked_changed marks k change (unit ∷ units) =
    (if is_bit marks k then change unit else unit) ∷ marked_changed marks (suc k) change units
