-- Wires that lead straight from columns of the card at second reading to print wheels.
use Rattle.std.specs.Prelude.{◌≡◌, ◌⊎◌, ℕ, ◌+◌, ◌-◌, ◌<◌, ◌≤◌, ◌==◌, ◌&&◌, ◌||◌, nat_le, nat_lt, All, Bool, true, false, List}
use Rattle.std.specs.List.{list_any}
use Rattle.hubs.specs.declared.hub.Hub.{Hub}
use Rattle.hubs.specs.declared.hub.Hub.TheVariants.{SR, W, CC, PX, HX}
use Rattle.hubs.specs.SetupsWords.Wiring.{HasWire, Wiring}
use Rattle.net.specs.HubRows.{has_at}
use Rattle.net.specs.declared.straight.Straight.{Straight}

-- The wires of a run lead from columns of a card, and to wheels. Both are counted from 0.
pub record IsInside (run : Straight) : Type 0 where
  pub columns : run.column + run.count ≤ 80
  pub wheels : run.wheel + run.count ≤ 120

-- whether a wire of the run leads from a column to a wheel
abbrev pub is_in_run : ℕ → ℕ → Straight → Bool
is_in_run column wheel run =
    nat_le run.column column && (nat_lt (column - run.column) run.count && (wheel == run.wheel + (column - run.column)))

-- whether a wire of one of the runs does
abbrev pub is_straight : List Straight → ℕ → ℕ → Bool
is_straight runs column wheel = list_any (is_in_run column wheel) runs

-- whether a wire of the run brings a row of a column to a wheel, where the columns have these sets of rows
abbrev pub is_brought_by : List ℕ → ℕ → ℕ → Straight → Bool
is_brought_by columns wheel row run =
    nat_le run.wheel wheel && (nat_lt (wheel - run.wheel) run.count && has_at columns (run.column + (wheel - run.wheel)) row)

-- whether a wire of one of the runs does
abbrev pub is_brought : List ℕ → List Straight → ℕ → ℕ → Bool
is_brought columns runs wheel row = list_any (is_brought_by columns wheel row) runs

-- the exits that tell of cycles: they emit at control points alone
abbrev pub tells_of_cycles : Hub → Bool
tells_of_cycles CC = true
tells_of_cycles (PX level cycle) = true
tells_of_cycles (HX heading) = true
tells_of_cycles other = false

-- a wire of one of the runs leads from the exit to the entry
pub record IsStraightWire (runs : List Straight) (exit entry : Hub) : Type 0 where
  pub column : ℕ
  pub wheel : ℕ
  pub leaves : exit ≡ SR (column + 1)
  pub comes : entry ≡ W (wheel + 1)
  pub listed : is_straight runs column wheel ≡ true

-- The wires are those of the runs, and such as lead from exits that tell of cycles.
pub record AreStraight (wiring : Wiring) (runs : List Straight) : Type 0 where
  pub inside : All IsInside runs
  pub wired : (column wheel : ℕ) → is_straight runs column wheel ≡ true → HasWire wiring (SR (column + 1)) (W (wheel + 1))
  pub only : (exit entry : Hub) → HasWire wiring exit entry → (tells_of_cycles exit ≡ true) ⊎ IsStraightWire runs exit entry

-- places of a column and a wheel
pub record IsColumnToWheel (from to : ℕ) : Type 0 where
  pub column : 80 ≤ from
  pub column_end : from < 160
  pub wheel : 1798 ≤ to
  pub wheel_end : to < 1918

-- the new runs have the wires of the old ones, and one more
abbrev pub JoinsWire : ℕ → ℕ → List Straight → List Straight → Type 0
JoinsWire column wheel old new =
    (c w : ℕ) → is_straight new c w ≡ (is_straight old c w || ((c == column) && (w == wheel)))

-- a wire of one of the runs leads from one place to another
pub record IsRunWire (runs : List Straight) (from to : ℕ) : Type 0 where
  pub ends : IsColumnToWheel from to
  pub listed : is_straight runs (from - 80) (to - 1798) ≡ true

-- The runs have nothing but wires, and all wires but those from exits that tell of cycles. A test on two places tells the wires.
pub record AreRunsOf (leads : ℕ → ℕ → Bool) (runs : List Straight) : Type 0 where
  pub inside : All IsInside runs
  pub wired : (column wheel : ℕ) → is_straight runs column wheel ≡ true → leads (80 + column) (1798 + wheel) ≡ true
  pub only : (from to : ℕ) → leads from to ≡ true → (1024 ≤ from) ⊎ IsRunWire runs from to
