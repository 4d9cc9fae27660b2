use Rattle.std.specs.Prelude.{◌≡◌}
use Rattle.readback_panels.specs.Items.{Gains, IsLiteral}
use Rattle.readback_panels.proofs.literals.put_literals_on.Given as goal

abbrev pub invariant-loop-wheel : goal.invariant-loop-wheel
invariant-loop-wheel l = record { gained : Gains IsLiteral l.fn.draft l.draft; fields : l.draft.fields ≡ l.fn.draft.fields }
