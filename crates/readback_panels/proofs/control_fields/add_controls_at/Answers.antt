use Rattle.readback_panels.proofs.ColumnsShown.{fields_then}
use Rattle.readback_panels.proofs.ItemsGained.{gains_then}
use Rattle.readback_panels.specs.Items.{IsTotalText}
use Rattle.readback_panels.proofs.control_fields.add_controls_at.Goals as goal
use Rattle.readback_panels.proofs.control_fields.add_controls_at.Goals.{then-eq+then-interval-column+in_ok-add_control, else-eq}

pub loop-place-preserved : goal.loop-place-preserved
loop-place-preserved c = elim c.if-eq.branch [
  | then-eq+then-interval-column+in_ok-add_control w ↦ rw w.draft-is (record {
    gained = gains_then IsTotalText c.args.draft.now c.loop-place.draft w.add_control.new.draft c.loop-place.invariant.gained
        w.in_ok-add_control.ensures.gained;
    kept = fields_then c.args.draft.now c.loop-place.draft w.add_control.new.draft c.loop-place.invariant.kept
        w.in_ok-add_control.ensures.kept;
  })
  | else-eq w ↦ rw w.draft-is c.loop-place.invariant
]
