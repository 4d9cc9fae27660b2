use Rattle.readback_panels.specs.Lines.{AreOf}
use Rattle.readback_panels.proofs.lines.push_fields.Given as goal

abbrev pub invariant-loop-first : goal.invariant-loop-first
invariant-loop-first l = AreOf l.draft l.lines.items

abbrev pub invariant-loop-last : goal.invariant-loop-last
invariant-loop-last l = AreOf l.draft l.lines.items
