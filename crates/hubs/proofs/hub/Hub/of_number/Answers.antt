use Rattle.std.proofs.Common.{◌≡◌, Some}
use Rattle.hubs.proofs.HubLemmas.{number_of-kind, numbered_at, named_by_number, in_range, if_found_more}
use Rattle.hubs.specs.Hubs.{letters_of, number_of, hub_named}
use Rattle.hubs.proofs.hub.Hub.of_number.Goals as goal

pub returns-in_err-letters-clause-found : goal.returns-in_err-letters-clause-found
returns-in_err-letters-clause-found c =
    λ hub e. absurd (c.in_err-letters.ensures.none (letters_of hub) (number_of-kind hub c.args.number e))

pub returns-clause-numbered : goal.returns-clause-numbered
returns-clause-numbered c =
    let letters = c.in_ok-letters.letters in
    let is = rw (c.shape.ensures, c.before-2.ensures.value) at c.numbers_at.ensures in
    if_found_more (λ hub. hub_named letters c.numbers_at.result ≡ Some hub)
    (λ hub. number_of hub ≡ Some c.args.number) c.named.result c.named.ensures.named
    (λ hub. numbered_at letters c.args.number c.numbers_at.result hub c.in_ok-letters.ensures.there is)

pub returns-clause-found : goal.returns-clause-found
returns-clause-found c =
    let letters = c.in_ok-letters.letters in
    let is = rw (c.shape.ensures, c.before-2.ensures.value) at c.numbers_at.ensures in
    λ hub e.
    c.named.ensures.found hub
    (named_by_number letters c.args.number c.numbers_at.result hub c.in_ok-letters.ensures.there is e)
    (in_range hub c.args.number e)
