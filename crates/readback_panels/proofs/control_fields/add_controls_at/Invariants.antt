use Rattle.readback_panels.specs.Items.{Gains, IsTotalText}
use Rattle.readback_panels.specs.Shown.{KeepsFields}
use Rattle.readback_panels.proofs.control_fields.add_controls_at.Given as goal

abbrev pub invariant-loop-place : goal.invariant-loop-place
invariant-loop-place l = record { gained : Gains IsTotalText l.fn.draft l.draft; kept : KeepsFields l.fn.draft l.draft }
