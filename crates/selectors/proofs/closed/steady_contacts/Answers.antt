use Rattle.selectors.proofs.ContactLemmas.{gains_three}
use Rattle.selectors.proofs.closed.steady_contacts.Goals as goal

pub returns : goal.returns
returns c point hub = gains_three _ _ _ _ _ _ _ (c.new-contacts.ensures hub) (c.close.ensures hub)
    (c.close-2.ensures c.args.cycle point hub) (c.close-3.ensures point hub)
