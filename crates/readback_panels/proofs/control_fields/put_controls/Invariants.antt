use Rattle.readback_panels.specs.Items.{Gains, IsTotalText}
use Rattle.readback_panels.specs.Shown.{KeepsFields}
use Rattle.readback_panels.proofs.control_fields.put_controls.Given as goal

abbrev pub invariant-loop-level : goal.invariant-loop-level
invariant-loop-level l = record { gained : Gains IsTotalText l.fn.draft l.draft; kept : KeepsFields l.fn.draft l.draft }

abbrev pub invariant-loop-column : goal.invariant-loop-column
invariant-loop-column l = record { gained : Gains IsTotalText l.fn.draft l.draft; kept : KeepsFields l.fn.draft l.draft }
