use Rattle.std.specs.Prelude.{◌≡◌}
use Rattle.readback_panels.specs.Items.{Gains, IsLiteral}
use Rattle.readback_panels.proofs.literals.put_literals.Given as goal

abbrev pub invariant-loop-line : goal.invariant-loop-line
invariant-loop-line l = record { gained : Gains IsLiteral l.fn.draft l.draft; fields : l.draft.fields ≡ l.fn.draft.fields }
