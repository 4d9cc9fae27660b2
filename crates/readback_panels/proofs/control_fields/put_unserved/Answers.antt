use Rattle.readback_panels.proofs.ColumnsShown.{fields_then}
use Rattle.readback_panels.proofs.ItemsGained.{gains_none, gains_then}
use Rattle.readback_panels.specs.Items.{IsTotalText}
use Rattle.readback_panels.proofs.control_fields.put_unserved.Goals as goal

pub loop-text-preserved : goal.loop-text-preserved
loop-text-preserved c = record {
  gained =
      gains_then IsTotalText c.args.draft.now c.loop-text.draft c.put_text.new.draft c.loop-text.invariant.gained
      (gains_then IsTotalText c.loop-text.draft c.add_field.new.self c.put_text.new.draft
      (gains_none IsTotalText c.loop-text.draft c.add_field.new.self c.in_ok-field.ensures.items) c.in_ok-put_text.ensures.gained);
  kept =
      fields_then c.args.draft.now c.loop-text.draft c.put_text.new.draft c.loop-text.invariant.kept
      (fields_then c.loop-text.draft c.add_field.new.self c.put_text.new.draft c.in_ok-field.ensures.kept c.in_ok-put_text.ensures.kept);
}
