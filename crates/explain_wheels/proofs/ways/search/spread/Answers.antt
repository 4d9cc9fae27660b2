use Rattle.std.proofs.Common.{arith}
use Rattle.net.specs.HubSets.{has_hub}
use Rattle.hubs.proofs.HubLemmas.{hub_numbered}
use Rattle.hubs.specs.SetupsWords.Wiring.{IsEntryNumber}
use Rattle.std.proofs.lemmas.List.Elements.{All-contains}
use Rattle.explain_wheels.proofs.WaysWords.Fills.{spread_both}
use Rattle.explain_wheels.proofs.ways.search.spread.Goals as goal

pub returns : goal.returns
returns c =
    spread_both c.args.level c.args.from c.args.setup.now (has_hub c.args.contacts.now) c.in-Some.hub c.entries_of.result.now _ _ _ _ _
    c.in-Some.ensures.numbered (λ entry n is. (c.entries_of.ensures.value entry n is).0)
    (λ entry n is. (c.entries_of.ensures.value entry n is).1)
    (λ n has. let range = All-contains IsEntryNumber c.entries_of.result.now n c.entries_of.ensures.entries has in
    let low = range.0 in hub_numbered n (omega (arith, low)) range.1)
    c.fill_all-added.ensures c.pass_contacts-added.ensures
