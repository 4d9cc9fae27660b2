use Rattle.std.proofs.Common.{Some, ap, flat_map, sym, ◌++◌, ◌∙◌}
use Rattle.chart_lines.specs.declared.charts.chart.Line.{Line}
use Rattle.match_plans.specs.ComparedColumns.{columns_for, columns_on, level_of}
use Rattle.match_plans.proofs.Steps.{parts-all, parts-more, parts-none}
use Rattle.match_plans.proofs.compared.compared_columns.Goals as goal
use Rattle.match_plans.proofs.compared.compared_columns.Goals.{in-Some+in_ok-push_columns, in_default}

pub loop-line-init : goal.loop-line-init
loop-line-init c =
    let own = λ (line : Line). columns_on c.args.chart.now.lines line.statement in
    ap (λ items. items ++ flat_map own c.lines-line-items.result.now) c.new-columns.ensures.items
    ∙ ap (flat_map own) c.lines-line-items.ensures.value

pub loop-line-preserved : goal.loop-line-preserved
loop-line-preserved c =
    let own = λ (line : Line). columns_on c.args.chart.now.lines line.statement in
    let statement = c.line-item.result.statement in
    elim c.match-compared_field.branch [
      | in-Some+in_ok-push_columns w ↦
          rw (w.columns-is, w.in_ok-push_columns.ensures)
          (parts-more own c.lines-line-items.result.now c.loop-line.line-index c.line-item.result c.loop-line-test.true c.line-item.is _ _ _
          (ap (columns_for (level_of statement)) (sym c.compared_field.ensures ∙ w.in-Some.is)
          ∙ ap (λ n. columns_for n (Some w.in-Some.field)) (sym w.level_of.ensures))
          c.loop-line.invariant)
      | in_default w ↦
          rw w.columns-is
          (parts-none own c.lines-line-items.result.now c.loop-line.line-index c.line-item.result c.loop-line-test.true c.line-item.is _ _
          (ap (columns_for (level_of statement)) (sym c.compared_field.ensures ∙ w.in_default.is)) c.loop-line.invariant)
    ]

pub returns : goal.returns
returns c =
    parts-all (λ (line : Line). columns_on c.args.chart.now.lines line.statement) c.lines-line-items.result.now c.loop-line.line-index
    c.loop-line.columns.items _ c.loop-line-test.false c.loop-line.invariant
