use Rattle.readback_panels.specs.Items.{Gains, IsTotalText}
use Rattle.readback_panels.specs.Shown.{KeepsFields}
use Rattle.readback_panels.proofs.control_fields.put_unserved.Given as goal

abbrev pub invariant-loop-text : goal.invariant-loop-text
invariant-loop-text l = record { gained : Gains IsTotalText l.fn.draft l.draft; kept : KeepsFields l.fn.draft l.draft }
