use Rattle.readback_panels.specs.Lines.{AreOf}
use Rattle.readback_panels.proofs.lines.lines_of.Given as goal

abbrev pub invariant-loop-control : goal.invariant-loop-control
invariant-loop-control l = AreOf l.draft l.lines.items

abbrev pub invariant-loop-line : goal.invariant-loop-line
invariant-loop-line l = AreOf l.draft l.lines.items
