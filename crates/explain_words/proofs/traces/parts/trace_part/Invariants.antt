use Rattle.machine.proofs.FewCycles.{ahead}
use Rattle.explain_wheels.specs.RunsWords.{along_of}
use Rattle.explain_words.proofs.TracesWords.PartRuns.{Parted}
use Rattle.explain_words.proofs.traces.parts.trace_part.Given as goal

-- the run stands between two cycles, and the part is that of the cycles so far
abbrev pub invariant-loop-cycle : goal.invariant-loop-cycle
invariant-loop-cycle l = Parted l.setup l.cards l.choice l.run l.part

abbrev pub decreases-loop-cycle : goal.decreases-loop-cycle
decreases-loop-cycle l = ahead (along_of l.run).run
