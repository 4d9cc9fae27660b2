-- Orders in which the 45 units of the machine are served.
use Rattle.std.specs.Prelude.{◌≡◌, ℕ, ◌<◌, List, All, Contains, Vec, length, map}
use Rattle.std.specs.declared.alloc.Global.{Global}
use Rattle.machine_served.specs.ServedWords.Units.{IsUnit}

-- how many units the machine has
abbrev pub unit_count : ℕ
unit_count = 45

-- an order names all units of a count
abbrev pub NamesAll : ℕ → List ℕ → Type 0
NamesAll count order = (unit : ℕ) → IsUnit count unit → Contains order unit

-- An order of the machine's units: 45 numbers, and each unit is among them. So each stands there once.
pub record IsOrder (order : List ℕ) : Type 0 where
  pub long : length order ≡ unit_count
  pub names : NamesAll unit_count order

-- what units can be served by: at least one list, and each is an order
pub record AreOrders (orders : List (List ℕ)) : Type 0 where
  pub some : 0 < length orders
  pub each : All IsOrder orders

-- the numbers of each list
abbrev pub lists_of : List (Vec ℕ Global) → List (List ℕ)
lists_of lists = map (λ list. list.items) lists
