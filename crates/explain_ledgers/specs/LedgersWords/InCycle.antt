-- The machine in a cycle of a run.
use Rattle.std.specs.Prelude.{◌≡◌, ℕ, List}
use Rattle.explain_ledgers.specs.LedgersWords.Running.{HasCycle}
use Rattle.machine.specs.Machine.{MachineState}
use Rattle.hubs.specs.SetupsWords.Wiring.{Wiring}

-- The machine stands behind the points of the cycle behind so many others, and before its end.
pub record IsInCycle (wiring : Wiring) (deck : List (List ℕ)) (passed : ℕ) (machine : MachineState) : Type 0 where
  pub has : HasCycle wiring deck passed
  pub is : machine ≡ has.behind
