-- What the machine does to a counter group in a cycle of a run is told by the ways of the cycle.
use Rattle.std.specs.Prelude.{◌≡◌, ◌↔◌, ◌+◌, ◌-◌, ◌<◌, ◌≤◌, ◌==◌, ℕ, Bool, true, List, [], ◌∷◌, length, if◌then◌else◌, Option, IsSome, Vec}
use Rattle.std.specs.declared.alloc.Global.{Global}
use Rattle.counters.specs.Counters.{group_of_unit}
use Rattle.hubs.specs.declared.hub.Hub.{Hub}
use Rattle.hubs.specs.declared.hub.Hub.TheVariants.{GE, MI, PL, RO}
use Rattle.explain_ledgers.specs.LedgersWords.Ledgers.{group_at}
use Rattle.explain_ledgers.specs.LedgersWords.Running.{HasCycle}
use Rattle.hubs.specs.SetupsWords.Wiring.{Wiring}
use Rattle.explain_ledgers.specs.CycleWays.Points.{TellsOf}

-- a way is told exactly if a control is on
abbrev pub IsToldBy : Option (Vec Hub Global) → Bool → Type 0
IsToldBy found on = IsSome found ↔ (on ≡ true)

-- A group is under plus, under minus or read out in a cycle of a run exactly if a way to that entry is told at the control point, which
-- has place 0. The group of place 0 is unit 3.
pub record ControlsAreTold : Type 0 where
  pub plus :
      (wiring : Wiring) (deck : List (List ℕ)) (passed : ℕ) (has : HasCycle wiring deck passed) (place : ℕ)
      (found : Option (Vec Hub Global)) → place < 32 → TellsOf has 0 (PL (group_of_unit (3 + place))) found
      → IsToldBy found (group_at has.behind place).controls.plus
  pub minus :
      (wiring : Wiring) (deck : List (List ℕ)) (passed : ℕ) (has : HasCycle wiring deck passed) (place : ℕ)
      (found : Option (Vec Hub Global)) → place < 32 → TellsOf has 0 (MI (group_of_unit (3 + place))) found
      → IsToldBy found (group_at has.behind place).controls.minus
  pub read_out :
      (wiring : Wiring) (deck : List (List ℕ)) (passed : ℕ) (has : HasCycle wiring deck passed) (place : ℕ)
      (found : Option (Vec Hub Global)) → place < 32 → TellsOf has 0 (RO (group_of_unit (3 + place))) found
      → IsToldBy found (group_at has.behind place).controls.read_out

-- the digit at a position, the units at position 1, by digits from the top down
abbrev pub digit_at : List ℕ → ℕ → ℕ
digit_at [] position = 0
digit_at (digit ∷ below) position = if length below + 1 == position then digit else digit_at below position

-- A digit, 1 to 9, that came to a position of a group in a cycle of a run came by the way that is told at its row. The row 9 has place 1,
-- and the row 1 place 9.
abbrev pub DigitsAreTold : Type 0
DigitsAreTold =
    (wiring : Wiring) (deck : List (List ℕ)) (passed : ℕ) (has : HasCycle wiring deck passed) (place position : ℕ)
    (found : Option (Vec Hub Global))
    → place < 32 → 1 ≤ digit_at (group_at has.behind place).entered position
    → TellsOf has (10 - digit_at (group_at has.behind place).entered position) (GE (group_of_unit (3 + place)) position) found
    → IsSome found
