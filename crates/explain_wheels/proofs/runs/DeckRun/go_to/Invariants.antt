use Rattle.std.specs.Prelude.{◌≤◌}
use Rattle.machine.proofs.FewCycles.{ahead}
use Rattle.explain_wheels.specs.RunsWords.{IsBetween, along_of}
use Rattle.explain_wheels.proofs.runs.DeckRun.go_to.Given as goal

-- the run stands between two cycles, and no more than so many are over
abbrev pub invariant-loop-self : goal.invariant-loop-self
invariant-loop-self l = record {
  between : IsBetween l.setup l.cards l.self;
  near : l.self.begun ≤ l.count;
}

abbrev pub decreases-loop-self : goal.decreases-loop-self
decreases-loop-self l = ahead (along_of l.self).run
