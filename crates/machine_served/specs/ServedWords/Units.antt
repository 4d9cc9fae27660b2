-- The units of a machine, all of one kind. They are numbered from 1 up to their count.
use Rattle.std.specs.Prelude.{◌≡◌, ℕ, zero, suc, ◌≤◌, ◌||◌, Bool, false}
use Rattle.hubs.specs.declared.hub.Hub.{Hub}
use Rattle.net.specs.declared.cycle.Cycle.{Cycle}
use Rattle.net.specs.declared.cycle.Point.{Point}
use Rattle.net.specs.Units.{Kind}

-- the unit is one of those from 1 up to the count
abbrev pub IsUnit : ℕ → ℕ → Type 0
IsUnit count unit = (1 ≤ unit) × (unit ≤ count)

-- whether one of the units from 1 up to the count passes a test
unfoldable pub some_unit : (ℕ → Bool) → ℕ → Bool
some_unit test zero = false
some_unit test (suc count) = some_unit test count || test (suc count)

-- each unit stands in a state that has its number
abbrev pub AreNumbered : {State : Type 0} → Kind State → ℕ → (ℕ → State) → Type 0
AreNumbered kind count units = (unit : ℕ) → IsUnit count unit → kind.number (units unit) ≡ unit

-- whether one of the units emits at an exit, by their states
abbrev pub all_emit : {State : Type 0} → Kind State → ℕ → (ℕ → State) → Cycle → Point → Hub → Bool
all_emit kind count units cycle point hub = some_unit (λ unit. kind.emits (units unit) cycle point hub) count

-- whether one of the units closes the contact with an exit, by their states
abbrev pub all_close : {State : Type 0} → Kind State → ℕ → (ℕ → State) → Cycle → Point → Hub → Bool
all_close kind count units cycle point hub = some_unit (λ unit. kind.closes (units unit) cycle point hub) count
