use Rattle.readback_panels.specs.Lines.{AreOf}
use Rattle.readback_panels.proofs.reading.Reading.kept_without.Given as goal

abbrev pub invariant-loop-at : goal.invariant-loop-at
invariant-loop-at l = AreOf l.self.draft l.kept.items
