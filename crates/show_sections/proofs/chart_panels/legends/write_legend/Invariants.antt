use Rattle.std.specs.Prelude.{take}
use Rattle.std.specs.String.{string_bytes}
use Rattle.show_drawings.specs.MarkupWords.Pieces.{GainsEach}
use Rattle.show_sections.specs.ChartPanels.Legends.{IsLegendSection}
use Rattle.show_sections.proofs.chart_panels.legends.write_legend.Given as goal

-- the lines so far are written
abbrev pub invariant-loop-line : goal.invariant-loop-line
invariant-loop-line l =
    GainsEach (IsLegendSection l.version l.chart.lines l.plan l.source) (take l.line-index l.chart.lines) (string_bytes l.initial.text)
    (string_bytes l.text)
