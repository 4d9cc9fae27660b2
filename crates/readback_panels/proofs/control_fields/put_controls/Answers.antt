use Rattle.readback_panels.proofs.ColumnsShown.{fields_last, fields_then}
use Rattle.readback_panels.proofs.ItemsGained.{gains_last, gains_then}
use Rattle.readback_panels.specs.Items.{IsTotalText}
use Rattle.readback_panels.proofs.control_fields.put_controls.Goals as goal

pub loop-column-preserved : goal.loop-column-preserved
loop-column-preserved c = record {
  gained = gains_then IsTotalText c.args.draft.now c.loop-column.draft c.add_controls_at.new.draft c.loop-column.invariant.gained
      c.in_ok-add_controls_at.ensures.gained;
  kept = fields_then c.args.draft.now c.loop-column.draft c.add_controls_at.new.draft c.loop-column.invariant.kept
      c.in_ok-add_controls_at.ensures.kept;
}

pub returns-clause-gained : goal.returns-clause-gained
returns-clause-gained c =
    gains_last IsTotalText c.put_unserved.result c.args.draft.now c.loop-level.draft c.put_unserved.new.draft c.loop-level.invariant.gained
    c.put_unserved.ensures.gained

pub returns-clause-kept : goal.returns-clause-kept
returns-clause-kept c =
    fields_last c.put_unserved.result c.args.draft.now c.loop-level.draft c.put_unserved.new.draft c.loop-level.invariant.kept
    c.put_unserved.ensures.kept
