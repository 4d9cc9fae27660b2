use Rattle.readback_panels.proofs.ChainsGained.{chain_added}
use Rattle.readback_panels.specs.Chains.{none}
use Rattle.readback_panels.proofs.chains.put_amount.Goals as goal

pub returns-in_default : goal.returns-in_default
returns-in_default c = none

pub returns : goal.returns
returns c =
    chain_added c.args.setup.now c.put_chain.result c.in-Some.field c.in_ok-place.place c.args.lowest c.args.draft.now c.add_field.new.self
    c.put_chain.new.draft c.in_ok-place.ensures.gained c.in_ok-place.ensures.place c.put_chain.ensures
