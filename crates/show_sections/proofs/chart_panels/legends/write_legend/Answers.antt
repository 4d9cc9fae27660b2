use Rattle.std.proofs.Common.{List, ap, get_or, length, subst, sym, ◌∙◌, ◌≡◌, ◌<◌}
use Rattle.std.specs.String.{string_bytes}
use Rattle.chart_lines.specs.declared.charts.chart.Line.{Line}
use Rattle.show_drawings.proofs.MarkupWords.Pieces.{each_item, each_none}
use Rattle.show_sections.specs.ChartPanels.Legends.{IsLegendSection}
use Rattle.show_sections.proofs.chart_panels.legends.write_legend.Goals as goal

pub loop-line-init : goal.loop-line-init
loop-line-init c =
    each_none (IsLegendSection c.args.version c.args.chart.now.lines c.args.plan.now c.args.source.now) (string_bytes c.args.text.now)

pub loop-line-preserved : goal.loop-line-preserved
loop-line-preserved c =
    let lines = c.args.chart.now.lines in
    let value = c.lines-line-items.ensures.value in
    let less : c.loop-line.line-index < length lines =
    subst (λ (l : List Line). c.loop-line.line-index < length l) value c.loop-line-test.true in
    let item : get_or lines c.loop-line.line-index c.line-item.result ≡ c.line-item.result =
    ap (λ (l : List Line). get_or l c.loop-line.line-index c.line-item.result) (sym value) ∙ sym c.line-item.is in
    each_item (IsLegendSection c.args.version lines c.args.plan.now c.args.source.now) lines c.loop-line.line-index
    c.line-item.result (string_bytes c.args.text.now) (string_bytes c.loop-line.text) (string_bytes c.write_line.new.text) less item
    c.loop-line.invariant c.in_ok-write_line.ensures
