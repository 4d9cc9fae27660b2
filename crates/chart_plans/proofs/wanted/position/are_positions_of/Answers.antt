use Rattle.std.proofs.Common.{◌≡◌, ◌++◌, ◌∙◌, sym, ap}
use Rattle.chart_lines.specs.declared.charts.chart.Line.{Line}
use Rattle.chart_plans.specs.WantedWords.Positions.{field_used, positions_for, positions_of}
use Rattle.chart_plans.proofs.WantedWords.Reading.{IsTrue-ended, IsTrue-differs, IsReadTo-nothing, IsReadTo-front, IsReadTo-fails, IsReadTo-end}
use Rattle.chart_plans.proofs.WantedWords.Columns.{positions_for-none}
use Rattle.chart_plans.proofs.wanted.position.are_positions_of.Goals as goal
use Rattle.chart_plans.proofs.wanted.position.are_positions_of.Goals.{in-Some+in-Some-after_columns, in_default}

pub loop-line-preserved : goal.loop-line-preserved
loop-line-preserved c =
    let f = λ (line : Line). positions_for line.number (field_used c.args.chart.now.lines c.args.columns line.statement) in
    elim c.match-field_used.branch [
      | in-Some+in-Some-after_columns w ↦
          rw w.rest-is
          (IsReadTo-front f c.lines-lines.result.now c.args.list.now c.loop-line.rest.now c.loop-line.line-index c.line-item.result c.loop-line-test.true c.line-item.is c.loop-line.invariant
          w.in-Some-after_columns.after.now
          (w.in-Some-after_columns.ensures ∙ ap (λ field. positions_for c.line-item.result.number field ++ w.in-Some-after_columns.after.now) w.in-Some.ensures))
      | in_default w ↦
          rw w.rest-is
          (IsReadTo-nothing f c.lines-lines.result.now c.args.list.now c.loop-line.rest.now c.loop-line.line-index c.line-item.result c.loop-line-test.true c.line-item.is c.loop-line.invariant
          (positions_for-none c.line-item.result.number (field_used c.args.chart.now.lines c.args.columns c.line-item.result.statement) (sym w.in_default.is ∙ c.field_used.ensures)))
    ]

pub returns-in-None : goal.returns-in-None
returns-in-None c =
    let f = λ (line : Line). positions_for line.number (field_used c.args.chart.now.lines c.args.columns line.statement) in
    IsTrue-differs (c.args.list.now ≡ positions_of c.args.chart.now.lines c.args.columns)
    (rw c.lines-lines.ensures.value at
    (IsReadTo-fails f c.lines-lines.result.now c.args.list.now c.loop-line.rest.now c.loop-line.line-index c.line-item.result c.loop-line-test.true c.line-item.is c.loop-line.invariant
    (λ after e. c.in-None.ensures after (e ∙ sym (ap (λ field. positions_for c.line-item.result.number field ++ after) c.in-Some.ensures)))))

pub returns : goal.returns
returns c =
    let f = λ (line : Line). positions_for line.number (field_used c.args.chart.now.lines c.args.columns line.statement) in
    IsTrue-ended c.loop-line.rest.now (c.args.list.now ≡ positions_of c.args.chart.now.lines c.args.columns) c.is_empty.result c.is_empty.ensures
    (rw c.lines-lines.ensures.value at
    (IsReadTo-end f c.lines-lines.result.now c.args.list.now c.loop-line.rest.now c.loop-line.line-index c.loop-line-test.false c.loop-line.invariant))
