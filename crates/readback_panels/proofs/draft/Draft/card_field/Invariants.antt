use Rattle.std.specs.Prelude.{◌≡◌}
use Rattle.readback_panels.proofs.draft.Draft.card_field.Given as goal

abbrev pub invariant-loop-place : goal.invariant-loop-place
invariant-loop-place l = l.self.items ≡ l.fn.self.items
