-- A net has the wires of a setup. It keeps them as rows, one for each exit, of the entries that its wires lead to.
use Rattle.std.specs.Prelude.{◌≡◌, ◌↔◌, ℕ, ◌-◌, Bool, true, false, List, Option, Some}
use Rattle.hubs.specs.Hubs.{number_of}
use Rattle.hubs.specs.SetupsWords.Wiring.{Wiring, HasWire}
use Rattle.hubs.specs.declared.hub.Hub.{Hub}
use Rattle.machine_sets.specs.BitSets.Rows.{leads}

-- What a net holds. Read it through leads_on alone.
pub record NetRows : Type 0 where
  pub rows : List (List ℕ)

-- whether the rows lead from one number to another
abbrev pub leads_by : List (List ℕ) → Option ℕ → Option ℕ → Bool
leads_by rows (Some from) (Some to) = leads rows (from - 1) (to - 1)
leads_by rows from to = false

-- whether the net leads from one hub to another
abbrev pub leads_on : NetRows → Hub → Hub → Bool
leads_on net from to = leads_by net.rows (number_of from) (number_of to)

-- the net leads on exactly where the setup has a wire
abbrev pub IsNetOf : Wiring → NetRows → Type 0
IsNetOf wiring net = (from to : Hub) → (leads_on net from to ≡ true) ↔ HasWire wiring from to
