-- Rows of hubs of one kind, and the lowest of a row that passes a test.
use Rattle.std.specs.Prelude.{ℕ, ◌<◌, ◌≤◌}
use Rattle.hubs.specs.declared.hub.Hub.{Hub}
use Rattle.hubs.specs.declared.hub.Hub.TheVariants as hub
use Rattle.readback_panels.specs.declared.hub_rows.HubRow.{HubRow}
use Rattle.readback_panels.specs.declared.hub_rows.HubRow.TheVariants as row

-- the hub of a number in a row
abbrev pub hub_in : HubRow → ℕ → Hub
hub_in row.First number = hub.FR number
hub_in row.Second number = hub.SR number
hub_in row.Digits number = hub.CSD number
hub_in (row.Normal position) number = hub.PIN number position
hub_in (row.Transferred position) number = hub.PIT number position
hub_in (row.Indicated level) number = hub.IX level number
hub_in row.Printing number = hub.PX number 3
hub_in row.Wheels number = hub.W number
hub_in row.Starts number = hub.ST number

-- how many hubs stand in a row
abbrev pub last_of : HubRow → ℕ
last_of row.First = 80
last_of row.Second = 80
last_of row.Digits = 16
last_of (row.Normal position) = 16
last_of (row.Transferred position) = 16
last_of (row.Indicated level) = 30
last_of row.Printing = 3
last_of row.Wheels = 120
last_of row.Starts = 3

-- a number of a row passes a test, and none below it does
pub record IsLowest (row : HubRow) (passes : ℕ → Type 0) (number : ℕ) : Type 0 where
  pub from : 1 ≤ number
  pub to : number ≤ last_of row
  pub here : passes number
  pub below : (other : ℕ) → 1 ≤ other → other < number → ¬ passes other

-- no number of a row passes a test
abbrev pub IsNone : HubRow → (ℕ → Type 0) → Type 0
IsNone row passes = (number : ℕ) → 1 ≤ number → number ≤ last_of row → ¬ passes number
