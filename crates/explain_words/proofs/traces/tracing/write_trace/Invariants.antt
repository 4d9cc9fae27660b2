use Rattle.machine.proofs.FewCycles.{ahead}
use Rattle.explain_wheels.specs.RunsWords.{along_of}
use Rattle.explain_words.proofs.TracesWords.Running.{Stands}
use Rattle.explain_words.proofs.traces.tracing.write_trace.Given as goal

-- the run stands between two cycles, and the trace so far is written
abbrev pub invariant-loop-cycle : goal.invariant-loop-cycle
invariant-loop-cycle g l = Stands l.setup l.cards l.run (g.W.Write.contents l.initial.out) (g.W.Write.contents l.out)

abbrev pub decreases-loop-cycle : goal.decreases-loop-cycle
decreases-loop-cycle g l = ahead (along_of l.run).run
