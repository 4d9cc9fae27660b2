use Rattle.std.proofs.Common.{sym}
use Rattle.selectors.specs.Contacts.{balance_closes}
use Rattle.selectors.specs.Indicate.{indicate_closes}
use Rattle.selectors.specs.Pilots.{pilots_closes}
use Rattle.selectors.proofs.ContactLemmas.{gains_carries}
use Rattle.selectors.proofs.closed.contacts.Goals as goal

pub returns : goal.returns
returns c hub =
    gains_carries _ _ _ (balance_closes c.args.latches.now hub) (pilots_closes c.args.pilots.now c.args.cycle c.args.point hub)
    (indicate_closes c.args.indicate.now c.args.cycle c.args.point hub) _ _
    (rw (sym c.of-latches.ensures) (c.steady_contacts.ensures c.args.point hub)) (c.with_splits-others.ensures hub) (c.with_carries.ensures hub)
