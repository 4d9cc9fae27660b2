use Rattle.std.proofs.Common.{◌∙◌}
use Rattle.readback_panels.proofs.ItemsGained.{gains_last, gains_then}
use Rattle.readback_panels.specs.Items.{IsLiteral}
use Rattle.readback_panels.proofs.literals.put_literals_on.Goals as goal

pub loop-wheel-preserved : goal.loop-wheel-preserved
loop-wheel-preserved c = record {
  gained = gains_then IsLiteral c.args.draft.now c.loop-wheel.draft c.run_behind.new.draft c.loop-wheel.invariant.gained
      c.in_ok-run.ensures.gained;
  fields = c.in_ok-run.ensures.fields ∙ c.loop-wheel.invariant.fields;
}

pub returns-clause-gained : goal.returns-clause-gained
returns-clause-gained c =
    gains_last IsLiteral c.put_run.result c.args.draft.now c.loop-wheel.draft c.put_run.new.draft c.loop-wheel.invariant.gained
    c.put_run.ensures.gained
