use Rattle.readback_panels.specs.Lines.{AreOf}
use Rattle.readback_panels.proofs.lines.push_items_on.Given as goal

abbrev pub invariant-loop-item : goal.invariant-loop-item
invariant-loop-item l = AreOf l.draft l.lines.items
