use Rattle.readback_panels.proofs.ItemsGained.{gains_then}
use Rattle.readback_panels.specs.Items.{IsCardAmount}
use Rattle.readback_panels.proofs.card_line.put_amounts.Goals as goal

pub loop-zone-preserved : goal.loop-zone-preserved
loop-zone-preserved c =
    gains_then IsCardAmount c.args.draft.now c.loop-zone.draft c.put_amount.new.draft c.loop-zone.invariant c.in_ok-put_amount.ensures
