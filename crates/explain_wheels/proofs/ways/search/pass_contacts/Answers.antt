use Rattle.net.specs.HubSets.{has_hub}
use Rattle.explain_wheels.proofs.WaysWords.Fills.{passed_both}
use Rattle.explain_wheels.proofs.ways.search.pass_contacts.Goals as goal

pub returns : goal.returns
returns c =
    passed_both c.args.level (has_hub c.args.contacts.now) c.args.common c.contacts_from-one.result _ _ _ _ _ c.contacts_from-one.ensures
    c.pass_contact-added.ensures c.pass_contact-added-2.ensures
