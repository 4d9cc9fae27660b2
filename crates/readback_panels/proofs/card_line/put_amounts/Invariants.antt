use Rattle.readback_panels.specs.Items.{Gains, IsCardAmount}
use Rattle.readback_panels.proofs.card_line.put_amounts.Given as goal

abbrev pub invariant-loop-zone : goal.invariant-loop-zone
invariant-loop-zone l = Gains IsCardAmount l.fn.draft l.draft
