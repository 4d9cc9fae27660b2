use Rattle.std.proofs.Common.{◌++◌, ◌∙◌, sym, ap}
use Rattle.chart_lines.specs.declared.charts.chart.Line.{Line}
use Rattle.chart_plans.specs.WantedWords.Positions.{field_used, positions_for}
use Rattle.chart_plans.proofs.WantedWords.Reading.{pieces-more, pieces-same}
use Rattle.chart_plans.proofs.WantedWords.Columns.{positions_for-none}
use Rattle.chart_plans.proofs.wanted.position.positions_of.Goals as goal
use Rattle.chart_plans.proofs.wanted.position.positions_of.Goals.{in-Some+in_ok-push_columns, in_default}

pub loop-line-preserved : goal.loop-line-preserved
loop-line-preserved c =
    let f = λ (line : Line). positions_for line.number (field_used c.args.chart.now.lines c.args.columns line.statement) in
    elim c.match-field_used.branch [
      | in-Some+in_ok-push_columns w ↦
          rw w.list-is
          (pieces-more f c.args.chart.now.lines c.lines-line-items.result.now c.lines-line-items.ensures.value c.loop-line.list.items c.loop-line.line-index
          c.line-item.result c.loop-line-test.true c.line-item.is c.loop-line.invariant w.push_columns.new.list.items
          (w.in_ok-push_columns.ensures ∙ ap (λ field. c.loop-line.list.items ++ positions_for c.line-item.result.number field) w.in-Some.ensures))
      | in_default w ↦
          rw w.list-is
          (pieces-same f c.args.chart.now.lines c.lines-line-items.result.now c.lines-line-items.ensures.value c.loop-line.list.items c.loop-line.line-index
          c.line-item.result c.loop-line-test.true c.line-item.is c.loop-line.invariant
          (positions_for-none c.line-item.result.number (field_used c.args.chart.now.lines c.args.columns c.line-item.result.statement) (sym w.in_default.is ∙ c.field_used.ensures)))
    ]
