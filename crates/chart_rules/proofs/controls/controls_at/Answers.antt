use Rattle.std.proofs.Common.{◌∙◌, sym, ap}
use Rattle.chart_lines.specs.ChartsWords.Levels.{control_number}
use Rattle.chart_rules.proofs.ControlFields.{controls-all, controls-none, controls-one}
use Rattle.chart_rules.proofs.controls.controls_at.Goals as goal
use Rattle.chart_rules.proofs.controls.controls_at.Goals.{in-Some+in_ok-push, in_default}

pub loop-line-preserved : goal.loop-line-preserved
loop-line-preserved c =
    elim c.match-control_on.branch [
      | in-Some+in_ok-push w ↦
          controls-one c.args.lines.now (control_number c.args.level) c.loop-line.line-index c.line-item.result w.in-Some.field
          c.loop-line.found.items _ c.loop-line-test.true c.line-item.is c.loop-line.invariant
          (sym (c.control_on.ensures c.args.lines.now c.requires) ∙ w.in-Some.is)
          (ap (λ v. v.items) w.found-is ∙ w.in_ok-push.ensures.items)
      | in_default w ↦
          ap (λ v. v.items) w.found-is
          ∙ controls-none c.args.lines.now (control_number c.args.level) c.loop-line.line-index c.line-item.result c.loop-line.found.items
          c.loop-line-test.true c.line-item.is c.loop-line.invariant
          (sym (c.control_on.ensures c.args.lines.now c.requires) ∙ w.in_default.is)
    ]

pub returns : goal.returns
returns c =
    controls-all c.args.lines.now (control_number c.args.level) c.loop-line.line-index c.loop-line.found.items c.loop-line-test.false
    c.loop-line.invariant
