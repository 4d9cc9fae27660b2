use Rattle.readback_panels.specs.Lines.{AreOf}
use Rattle.readback_panels.proofs.lines.push_items.Given as goal

abbrev pub invariant-loop-wheel : goal.invariant-loop-wheel
invariant-loop-wheel l = AreOf l.draft l.lines.items
