use Rattle.explain_ledgers.proofs.LedgersWords.Small.{entered-digits, entered-places}
use Rattle.explain_ledgers.proofs.ledgers.entry.movement_of_one.Goals as goal

pub number_of-requires-clause-positions : goal.number_of-requires-clause-positions
number_of-requires-clause-positions c =
    entered-places c.args.group.now c.entered.result c.as_slice.result.now c.requires c.entered.ensures c.as_slice.ensures

pub number_of-requires-clause-digits : goal.number_of-requires-clause-digits
number_of-requires-clause-digits c =
    entered-digits c.args.group.now c.entered.result c.as_slice.result.now c.requires c.entered.ensures c.as_slice.ensures
