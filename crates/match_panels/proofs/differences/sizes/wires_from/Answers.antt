use Rattle.match_panels.proofs.DifferencesWords.RowWires.{from-row}
use Rattle.match_panels.proofs.differences.sizes.wires_from.Goals as goal

pub returns-in-Some-clause-many : goal.returns-in-Some-clause-many
returns-in-Some-clause-many c =
    from-row c.args.setup.now c.in-Some.exit c.entries_of.result.now c.in-Some.ensures.numbered c.in-Some.ensures.found c.entries_of.ensures.entries
    c.entries_of.ensures.value c.different.ensures.many
