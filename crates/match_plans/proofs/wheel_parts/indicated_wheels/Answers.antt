use Rattle.std.proofs.Common.{Some, ap, flat_map, sym, ◌++◌, ◌∙◌}
use Rattle.chart_lines.specs.declared.charts.chart.Line.{Line}
use Rattle.match_plans.specs.WheelParts.{detail_wheel, wheels_from, wheels_on}
use Rattle.match_plans.proofs.Steps.{parts-all, parts-more, parts-none}
use Rattle.match_plans.proofs.wheel_parts.indicated_wheels.Goals as goal
use Rattle.match_plans.proofs.wheel_parts.indicated_wheels.Goals.{in-Some+in_ok-push_wheels, in_default}

pub loop-line-init : goal.loop-line-init
loop-line-init c =
    let own = λ (line : Line). wheels_on c.args.chart.now.lines c.args.level line.statement in
    ap (λ items. items ++ flat_map own c.lines-line-items.result.now) c.new-wheels.ensures.items
    ∙ ap (flat_map own) c.lines-line-items.ensures.value

pub loop-line-preserved : goal.loop-line-preserved
loop-line-preserved c =
    let own = λ (line : Line). wheels_on c.args.chart.now.lines c.args.level line.statement in
    let statement = c.line-item.result.statement in
    elim c.match-indicated_field.branch [
      | in-Some+in_ok-push_wheels w ↦
          rw (w.wheels-is, w.in_ok-push_wheels.ensures)
          (parts-more own c.lines-line-items.result.now c.loop-line.line-index c.line-item.result c.loop-line-test.true c.line-item.is _ _ _
          (ap (wheels_from (detail_wheel statement)) (sym c.indicated_field.ensures ∙ w.in-Some.is)
          ∙ ap (λ n. wheels_from n (Some w.in-Some.field)) (sym w.detail_wheel.ensures))
          c.loop-line.invariant)
      | in_default w ↦
          rw w.wheels-is
          (parts-none own c.lines-line-items.result.now c.loop-line.line-index c.line-item.result c.loop-line-test.true c.line-item.is _ _
          (ap (wheels_from (detail_wheel statement)) (sym c.indicated_field.ensures ∙ w.in_default.is)) c.loop-line.invariant)
    ]

pub returns : goal.returns
returns c =
    parts-all (λ (line : Line). wheels_on c.args.chart.now.lines c.args.level line.statement) c.lines-line-items.result.now
    c.loop-line.line-index c.loop-line.wheels.items _ c.loop-line-test.false c.loop-line.invariant
