use Rattle.std.proofs.Common.{◌≡◌}
use Rattle.fault_chart_words.proofs.FaultWords.Telling.{NotYet}
use Rattle.fault_chart_words.proofs.fault_words.entries.write_told.Given as goal

-- nothing is written yet, since no line so far has the number
abbrev pub invariant-loop-place : goal.invariant-loop-place
invariant-loop-place g l =
    (g.W.Write.contents l.out ≡ g.W.Write.contents l.initial.out) × NotYet l.fault.rule l.raw l.text l.fault.line l.place
