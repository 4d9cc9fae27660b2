-- Helper words: one cycle more of a part of a trace.
use Rattle.std.specs.Prelude.{◌≡◌, ℕ, ◌≤◌, ◌+◌, List, [], ◌∷◌, ◌++◌}
use Rattle.explain_words.specs.TracesWords.Parts.{IsPartOf}
use Rattle.explain_words.specs.TracesWords.Traces.{ToldCycle}
use Rattle.explain_words.specs.declared.traces.parts.CycleChoice.{CycleChoice}
use Rattle.explain_words.specs.declared.traces.parts.TracePart.{TracePart}

-- no count is greater than that of all cycles
pub record IsBounded (part : TracePart) : Type 0 where
  pub before : part.before ≤ part.all
  pub count : part.count ≤ part.all
  pub lines : part.lines ≤ part.all

-- a part takes up a cycle that printed so many lines
pub record TakesCycle (choice : CycleChoice) (cycle : ToldCycle) (placed : ℕ) (old new : TracePart) : Type 0 where
  pub goes_on : (cycles : List ToldCycle) → IsPartOf choice cycles old → IsPartOf choice (cycles ++ cycle ∷ []) new
  pub all : new.all ≡ old.all + 1
  pub lines : new.lines ≡ old.lines + placed
  pub bounded : IsBounded new
