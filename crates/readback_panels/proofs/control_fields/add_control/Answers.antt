use Rattle.readback_panels.proofs.ColumnsShown.{fields_then}
use Rattle.readback_panels.proofs.ItemsGained.{gains_then}
use Rattle.readback_panels.specs.Items.{IsTotalText}
use Rattle.readback_panels.proofs.control_fields.add_control.Goals as goal

pub loop-text-preserved-in-Continue-branch-3 : goal.loop-text-preserved-in-Continue-branch-3
loop-text-preserved-in-Continue-branch-3 c = record {
  gained = gains_then IsTotalText c.args.draft.now c.loop-text.draft c.put_text.new.draft c.loop-text.invariant.gained
      c.in_ok-put_text.ensures.gained;
  kept = fields_then c.args.draft.now c.loop-text.draft c.put_text.new.draft c.loop-text.invariant.kept c.in_ok-put_text.ensures.kept;
}
