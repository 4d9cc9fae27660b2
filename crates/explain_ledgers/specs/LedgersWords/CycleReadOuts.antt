-- Which counter groups are read out in the cycles of a run.
use Rattle.std.specs.Prelude.{◌≡◌, ℕ, ◌<◌, Bool, List, length, map, slice_index_or}
use Rattle.counters.specs.Counters.{Counter}
use Rattle.machine.specs.Machine.{MachineState}
use Rattle.hubs.specs.SetupsWords.Wiring.{Wiring}
use Rattle.explain_ledgers.specs.LedgersWords.InCycle.{IsInCycle}
use Rattle.explain_ledgers.specs.declared.ledgers.read_outs.ReadOuts.{ReadOuts}

-- which of some groups are read out
abbrev pub read_outs_of : List Counter → List Bool
read_outs_of groups = map (λ group. group.controls.read_out) groups

-- These groups are read out behind the points of the cycle behind so many others.
pub record AreReadOuts (wiring : Wiring) (deck : List (List ℕ)) (passed : ℕ) (read_outs : ReadOuts) : Type 0 where
  pub machine : MachineState
  pub is : IsInCycle wiring deck passed machine
  pub told : read_outs.groups ≡ read_outs_of machine.groups

-- The first cycles of a run: of each one it is told which groups are read out.
abbrev pub TellReadOuts : Wiring → List (List ℕ) → List ReadOuts → Type 0
TellReadOuts wiring deck all =
    (passed : ℕ) (other : ReadOuts) → passed < length all → AreReadOuts wiring deck passed (slice_index_or all passed other)
