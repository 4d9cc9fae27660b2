use Rattle.std.specs.Prelude.{take}
use Rattle.show_sections.specs.ChartPanels.Asking.{AreAsked}
use Rattle.show_sections.proofs.chart_panels.asking.all_asked.Given as goal

-- the wires so far have their lines
abbrev pub invariant-loop-pair : goal.invariant-loop-pair
invariant-loop-pair l = AreAsked l.chart.lines l.plan (take l.pair-index l.pairs) l.wires.items
