use Rattle.readback_panels.specs.Lines.{AreOf}
use Rattle.readback_charts.proofs.lawful.lawful_text.Given as goal

abbrev pub invariant-loop : goal.invariant-loop
invariant-loop l = AreOf l.reading.draft l.reading.lines.items
