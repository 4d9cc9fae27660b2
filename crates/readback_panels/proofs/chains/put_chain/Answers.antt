use Rattle.readback_panels.proofs.ChainsGained.{chain_begins, chain_goes_on}
use Rattle.readback_panels.proofs.chains.put_chain.Goals as goal

pub loop-init : goal.loop-init
loop-init c =
    chain_begins c.args.setup.now c.args.field c.args.lowest c.args.draft.now c.put_total.new.draft c.requires.lowest
    c.in_ok-put_total.ensures

pub loop-preserved : goal.loop-preserved
loop-preserved c =
    chain_goes_on c.args.setup.now c.args.field c.args.lowest c.loop.last c.in-Some.next c.args.draft.now c.loop.draft
    c.put_total-in-loop.new.draft c.loop.invariant c.in-Some.ensures.up c.in-Some.ensures.out c.in_ok-put_total-2.ensures
