use Rattle.std.specs.Prelude.{string_bytes}
use Rattle.readback_charts.specs.PanelChart.{IsReadBack}
use Rattle.readback_charts.proofs.nearest_charts.nearest.nearest_by.Given as goal

abbrev pub invariant-loop-toggle : goal.invariant-loop-toggle
invariant-loop-toggle l = IsReadBack l.setup (string_bytes l.best.panel.text) l.best.panel.compiled l.best.panel.matching
