use Rattle.std.proofs.Common.{sym, subst}
use Rattle.counters.specs.Laws.{IsCounter}
use Rattle.counters.proofs.Staying.{counters-stay}
use Rattle.explain_ledgers.proofs.LedgersWords.Small.{entered-digits, entered-number, entered-places, entered-small, held-small}
use Rattle.explain_ledgers.proofs.ledgers.account.movement_of_both.Goals as goal

pub joined-held-requires-clause-upper : goal.joined-held-requires-clause-upper
joined-held-requires-clause-upper c = held-small c.args.upper.now c.value.result c.requires.upper c.value.ensures

pub joined-held-requires-clause-lower : goal.joined-held-requires-clause-lower
joined-held-requires-clause-lower c = held-small c.args.lower.now c.value-2.result c.requires.lower c.value-2.ensures

pub number_of-upper_entered-requires-clause-positions : goal.number_of-upper_entered-requires-clause-positions
number_of-upper_entered-requires-clause-positions c =
    entered-places c.args.upper.now c.entered.result c.as_slice.result.now c.requires.upper c.entered.ensures c.as_slice.ensures

pub number_of-upper_entered-requires-clause-digits : goal.number_of-upper_entered-requires-clause-digits
number_of-upper_entered-requires-clause-digits c =
    entered-digits c.args.upper.now c.entered.result c.as_slice.result.now c.requires.upper c.entered.ensures c.as_slice.ensures

pub number_of-lower_entered-requires-clause-positions : goal.number_of-lower_entered-requires-clause-positions
number_of-lower_entered-requires-clause-positions c =
    entered-places c.args.lower.now c.entered-2.result c.as_slice-2.result.now c.requires.lower c.entered-2.ensures c.as_slice-2.ensures

pub number_of-lower_entered-requires-clause-digits : goal.number_of-lower_entered-requires-clause-digits
number_of-lower_entered-requires-clause-digits c =
    entered-digits c.args.lower.now c.entered-2.result c.as_slice-2.result.now c.requires.lower c.entered-2.ensures c.as_slice-2.ensures

pub joined-entered-requires-clause-upper : goal.joined-entered-requires-clause-upper
joined-entered-requires-clause-upper c =
    entered-small c.args.upper.now c.number_of-upper_entered.result c.requires.upper
    (entered-number c.args.upper.now c.entered.result c.as_slice.result.now c.number_of-upper_entered.result c.entered.ensures
    c.as_slice.ensures c.number_of-upper_entered.ensures)

pub joined-entered-requires-clause-lower : goal.joined-entered-requires-clause-lower
joined-entered-requires-clause-lower c =
    entered-small c.args.lower.now c.number_of-lower_entered.result c.requires.lower
    (entered-number c.args.lower.now c.entered-2.result c.as_slice-2.result.now c.number_of-lower_entered.result c.entered-2.ensures
    c.as_slice-2.ensures c.number_of-lower_entered.ensures)

pub joined-after-requires-clause-upper : goal.joined-after-requires-clause-upper
joined-after-requires-clause-upper c =
    held-small c.turned-upper_turned.result c.value-3.result
    (subst IsCounter (sym c.turned-upper_turned.ensures) (counters-stay.ended c.args.upper.now c.args.cycle c.requires.upper))
    c.value-3.ensures

pub joined-after-requires-clause-lower : goal.joined-after-requires-clause-lower
joined-after-requires-clause-lower c =
    held-small c.turned-lower_turned.result c.value-4.result
    (subst IsCounter (sym c.turned-lower_turned.ensures) (counters-stay.ended c.args.lower.now c.args.cycle c.requires.lower))
    c.value-4.ensures
