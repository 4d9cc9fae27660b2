-- Helper words: one cycle of a run that is traced, and the trace that is written.
use Rattle.std.specs.Prelude.{◌≡◌, ◌++◌, ℕ, List, Option}
use Rattle.std.specs.Io.KnownBytes.{Appends}
use Rattle.hubs.specs.SetupsWords.Wiring.{Wiring}
use Rattle.net.specs.declared.cycle.Cycle.{Cycle}
use Rattle.machine.specs.Machine.{MachineState}
use Rattle.explain_wheels.specs.RunsWords.{Along, Ends, card_in}
use Rattle.explain_wheels.specs.declared.runs.DeckRun.{DeckRun}
use Rattle.explain_words.specs.TracesWords.Lines.{cycle_line}
use Rattle.explain_words.specs.TracesWords.Traces.{IsTrace}

-- a cycle was left that had this machine behind its points, and its line was made
pub record TracesCycle (wiring : Wiring) (deck : List (List ℕ)) (cycle : Cycle) (from : Along) (behind : MachineState) (run : DeckRun)
    (line : List ℕ) : Type 0 where
  pub ends : Ends wiring deck cycle from behind run
  pub told : line ≡ cycle_line cycle (card_in cycle from.card) behind

-- the whole trace is written
pub record WritesTrace (wiring : Wiring) (deck : List (List ℕ)) (was is : Option (List ℕ)) : Type 0 where
  pub trace : List ℕ
  pub is_trace : IsTrace wiring deck trace
  pub written : Appends was is trace

-- the front of the whole trace is written: with the rest behind it, it is the trace
pub record WritesTraceFront (wiring : Wiring) (deck : List (List ℕ)) (was is : Option (List ℕ)) : Type 0 where
  pub front : List ℕ
  pub rest : List ℕ
  pub is_trace : IsTrace wiring deck (front ++ rest)
  pub written : Appends was is front
