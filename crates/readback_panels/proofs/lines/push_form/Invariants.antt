use Rattle.readback_panels.specs.Lines.{AreOf}
use Rattle.readback_panels.proofs.lines.push_form.Given as goal

abbrev pub invariant-loop-channel : goal.invariant-loop-channel
invariant-loop-channel l = AreOf l.draft l.lines.items
