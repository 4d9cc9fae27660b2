use Rattle.std.proofs.Common.{◌≤◌, ◌-◌, length, take}
use Rattle.std.specs.Io.KnownBytes.{Appends}
use Rattle.explain_words.proofs.traces.tracing.put_line.Given as goal

-- the first so many bytes are written
abbrev pub invariant-loop-done : goal.invariant-loop-done
invariant-loop-done g l = record {
  within : l.done ≤ length l.line;
  taken : Appends (g.W.Write.contents l.initial.out) (g.W.Write.contents l.out) (take l.done l.line);
}

abbrev pub decreases-loop-done : goal.decreases-loop-done
decreases-loop-done g l = length l.line - l.done
