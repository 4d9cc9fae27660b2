use Rattle.wiring_lines.proofs.LineWires.Steps.{line-there}
use Rattle.match_panels.proofs.DifferencesWords.PanelProgress.Counted.{counts_more, counts_none}
use Rattle.match_panels.proofs.differences.panel_progress.counting.line_counts.Goals as goal

pub loop-line-init : goal.loop-line-init
loop-line-init c =
    counts_none c.args.chart.now.lines c.args.plan.now c.args.setup.now c.new-counts.result.items c.new-counts.ensures.items

pub loop-line-preserved : goal.loop-line-preserved
loop-line-preserved c =
    let there = line-there c.lines-line-items.ensures.value c.loop-line-test.true c.line-item.is in
    counts_more c.args.chart.now.lines c.args.plan.now c.args.setup.now c.loop-line.line-index c.line-item.result
    c.loop-line.counts.items c.push.new.self.items _ c.loop-line.invariant there c.in_ok-count_of.ensures c.in_ok-push.ensures.items
