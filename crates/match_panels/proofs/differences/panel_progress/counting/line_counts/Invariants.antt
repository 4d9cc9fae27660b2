use Rattle.match_panels.specs.DifferencesWords.PanelProgress.Counts.{AreCountsBefore}
use Rattle.match_panels.proofs.differences.panel_progress.counting.line_counts.Given as goal

-- the lines so far are counted
abbrev pub invariant-loop-line : goal.invariant-loop-line
invariant-loop-line l = AreCountsBefore l.chart.lines l.plan l.setup l.line-index l.counts.items
