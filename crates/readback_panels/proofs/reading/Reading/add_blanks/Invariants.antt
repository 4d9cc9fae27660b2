use Rattle.std.specs.Prelude.{◌≡◌}
use Rattle.readback_panels.specs.Lines.{AreOf}
use Rattle.readback_panels.proofs.reading.Reading.add_blanks.Given as goal

abbrev pub invariant-loop-printed : goal.invariant-loop-printed
invariant-loop-printed l = record { draft : l.self.draft ≡ l.initial.self.draft; of : AreOf l.self.draft l.self.lines.items }
