use Rattle.std.proofs.Common.{◌≡◌, ◌∙◌, sym, None, true}
use Rattle.hubs.proofs.HubLemmas.{named_in_range, named_out_of_range, if_found}
use Rattle.hubs.specs.HubTable.HubTable.{row_of}
use Rattle.hubs.specs.Hubs.{is_hub_in_range}
use Rattle.hubs.specs.HubTable.Places.{place_of}
use Rattle.hubs.proofs.hub.Hub.named.Goals as goal

pub returns-in_err-place-clause-found : goal.returns-in_err-place-clause-found
returns-in_err-place-clause-found c =
    let none : place_of (row_of c.args.letters).shape c.args.numbers ≡ None =
    sym (rw c.shape.ensures at c.in_err-place.ensures.place) in
    λ hub named there. absurd (named_out_of_range c.args.letters c.args.numbers none hub named there)

pub returns-clause-in_range : goal.returns-clause-in_range
returns-clause-in_range c =
    let some = rw c.shape.ensures at (sym c.in_ok-place.ensures.place) in
    if_found (λ hub. is_hub_in_range hub ≡ true) c.with_numbers.result
    (λ hub is.
    named_in_range c.args.letters c.args.numbers c.in_ok-place.field-0 some hub
    (sym c.with_numbers.ensures ∙ is))
