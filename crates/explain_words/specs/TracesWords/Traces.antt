-- The cycles of a run of the machine over a deck, each with the line that tells of it, and the trace: these lines in their order.
use Rattle.std.specs.Prelude.{◌≡◌, ℕ, List, [], ◌∷◌, ◌++◌, None}
use Rattle.std.specs.List.{flat_map}
use Rattle.explain_wheels.specs.RunsWords.{Along, Goes, along_after, along_at_start, card_in}
use Rattle.hubs.specs.SetupsWords.Wiring.{Wiring}
use Rattle.net.specs.declared.cycle.Cycle.{Cycle}
use Rattle.machine.specs.Machine.{MachineState}
use Rattle.machine.specs.Runs.{cycle_due}
use Rattle.explain_words.specs.TracesWords.Lines.{cycle_line}

-- a cycle of a run: the number of the card that was read last, 0 before the first card cycle, and the line that tells of the cycle
pub record ToldCycle : Type 0 where
  pub card : ℕ
  pub line : List ℕ

-- the line of a cycle
abbrev pub told_line : ToldCycle → List ℕ
told_line cycle = cycle.line

-- a cycle by the number of the card that was read last and the machine behind its points
abbrev pub told_cycle : Cycle → ℕ → MachineState → ToldCycle
told_cycle cycle card behind = record { card = card; line = cycle_line cycle card behind }

-- The cycles of a run over a deck up to a place between two of them, in their order, each told.
pub data CyclesTo (wiring : Wiring) (deck : List (List ℕ)) : Along → List ToldCycle → Type 0 where
  none : CyclesTo wiring deck (along_at_start wiring deck) []
  next :
      (cycle : Cycle) (along : Along) (cycles : List ToldCycle) (behind : MachineState)
      → CyclesTo wiring deck along cycles
      → Goes wiring cycle along behind
      → CyclesTo wiring deck (along_after cycle behind along) (cycles ++ told_cycle cycle (card_in cycle along.card) behind ∷ [])

-- All cycles of a run over a deck: up to where none is due any more.
pub record AreCycles (wiring : Wiring) (deck : List (List ℕ)) (cycles : List ToldCycle) : Type 0 where
  pub along : Along
  pub told : CyclesTo wiring deck along cycles
  pub over : cycle_due along.run.machine ≡ None

-- The trace of a deck on a panel: the lines of all cycles.
pub record IsTrace (wiring : Wiring) (deck : List (List ℕ)) (trace : List ℕ) : Type 0 where
  pub cycles : List ToldCycle
  pub are_cycles : AreCycles wiring deck cycles
  pub lines : trace ≡ flat_map told_line cycles
