-- A run of the machine over a deck, by how many cycles are over, and one that is followed from cycle to cycle.
use Rattle.std.specs.Prelude.{◌≡◌, ℕ, ◌+◌, List, Some}
use Rattle.explain_wheels.specs.declared.runs.DeckRun.{DeckRun}
use Rattle.hubs.specs.SetupsWords.Wiring.{Wiring}
use Rattle.machine.specs.Cycles.{Reached}
use Rattle.machine.specs.Kept.{KeepsPoints}
use Rattle.machine.specs.Machine.{MachineState, ended}
use Rattle.machine.specs.Runs.{InRun, cycle_due, made_ready, run_at_start}
use Rattle.machine.specs.declared.kept.KeptPoint.{KeptPoint}
use Rattle.net.specs.Nets.{IsNetOf}
use Rattle.net.specs.declared.cycle.Cycle.{Cycle}
use Rattle.net.specs.declared.cycle.Cycle.TheVariants.{Card}

-- A run over a deck between two of its cycles: how many cards were read, how many cycles are over, and the machine with its hopper.
pub record Along : Type 0 where
  pub card : ℕ
  pub passed : ℕ
  pub run : InRun

-- before any cycle
abbrev pub along_at_start : Wiring → List (List ℕ) → Along
along_at_start wiring deck = record { card = 0; passed = 0; run = run_at_start wiring deck }

-- a card cycle reads the next card
abbrev pub card_in : Cycle → ℕ → ℕ
card_in Card card = card + 1
card_in cycle card = card

-- the machine of a cycle, with its cards where they stand in it
abbrev pub ready : Cycle → Along → MachineState
ready cycle along = (made_ready cycle along.run).machine

-- behind a cycle, by the machine behind its points
abbrev pub along_after : Cycle → MachineState → Along → Along
along_after cycle behind along = record {
  card = card_in cycle along.card;
  passed = along.passed + 1;
  run = record { machine = ended behind cycle; hopper = (made_ready cycle along.run).hopper };
}

-- One cycle of a run: it is due, and its fourteen points lead to the machine behind them.
pub record Goes (wiring : Wiring) (cycle : Cycle) (along : Along) (behind : MachineState) : Type 0 where
  pub due : cycle_due along.run.machine ≡ Some cycle
  pub reached : Reached wiring cycle 14 (ready cycle along) behind

-- A run over a deck comes to a place between two of its cycles: to the start, and from a place to that behind the cycle that is due there.
pub data ComesTo (wiring : Wiring) (deck : List (List ℕ)) : Along → Type 0 where
  at_start : ComesTo wiring deck (along_at_start wiring deck)
  on :
      (cycle : Cycle) (along : Along) (behind : MachineState) → ComesTo wiring deck along → Goes wiring cycle along behind
      → ComesTo wiring deck (along_after cycle behind along)

-- A run has a cycle behind so many others.
pub record HasCycle (wiring : Wiring) (deck : List (List ℕ)) (passed : ℕ) : Type 0 where
  pub along : Along
  pub comes : ComesTo wiring deck along
  pub counted : along.passed ≡ passed
  pub cycle : Cycle
  pub behind : MachineState
  pub goes : Goes wiring cycle along behind

-- These are the points of the cycle of a run behind so many others.
pub record ArePointsOf (wiring : Wiring) (deck : List (List ℕ)) (passed : ℕ) (points : List KeptPoint) : Type 0 where
  pub has : HasCycle wiring deck passed
  pub kept : KeepsPoints wiring has.cycle (ready has.cycle has.along) 14 points

-- where a run that is followed stands
abbrev pub along_of : DeckRun → Along
along_of run = record {
  card = run.card;
  passed = run.begun;
  run = record { machine = run.machine.machine; hopper = run.hopper.now };
}

-- It stands in the run of a deck, between two cycles.
pub record IsBetween (wiring : Wiring) (deck : List (List ℕ)) (run : DeckRun) : Type 0 where
  pub net : IsNetOf wiring run.machine.net
  pub comes : ComesTo wiring deck (along_of run)

-- It stands before any cycle.
pub record IsBegun (wiring : Wiring) (deck : List (List ℕ)) (run : DeckRun) : Type 0 where
  pub between : IsBetween wiring deck run
  pub start : along_of run ≡ along_at_start wiring deck

-- It stands in a cycle that was due at a place of the run, behind the points of that cycle.
pub record IsIn (wiring : Wiring) (deck : List (List ℕ)) (cycle : Cycle) (from : Along) (run : DeckRun) : Type 0 where
  pub net : IsNetOf wiring run.machine.net
  pub comes : ComesTo wiring deck from
  pub goes : Goes wiring cycle from run.machine.machine
  pub card : run.card ≡ card_in cycle from.card
  pub begun : run.begun ≡ from.passed + 1
  pub hopper : run.hopper.now ≡ (made_ready cycle from.run).hopper

-- It has left the cycle, which had this machine behind its points.
pub record Ends (wiring : Wiring) (deck : List (List ℕ)) (cycle : Cycle) (from : Along) (behind : MachineState) (run : DeckRun) : Type 0 where
  pub between : IsBetween wiring deck run
  pub along : along_after cycle behind from ≡ along_of run

-- Helper word of the code: a run that is ready for a cycle.
abbrev pub along_in : Cycle → Along → Along
along_in cycle along = record { card = card_in cycle along.card; passed = along.passed + 1; run = made_ready cycle along.run }
