use Rattle.std.proofs.Common.{sym, eqb}
use Rattle.std.proofs.lemmas.Bool.Decides.{Decides-eqb}
use Rattle.std.proofs.lemmas.List.Elements.{contains_decides, Decides-contains}
use Rattle.hubs.proofs.setups.setup.Setup.has.Goals as goal

pub returns-in-Some-clause-value : goal.returns-in-Some-clause-value
returns-in-Some-clause-value c =
    let numbers = c.entries_of-entries.result.now in
    let number = c.in-Some.number in
    let found =
    Decides-contains numbers number c.contains.result
    (contains_decides eqb Decides-eqb numbers number c.contains.result c.contains.ensures.cases) in
    let listed = c.entries_of-entries.ensures.value c.args.entry number (sym c.in-Some.ensures.value) in
    (λ yes. listed.0 (found.0 yes), λ wire. found.1 (listed.1 wire))
