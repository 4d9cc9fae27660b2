use Rattle.selectors.proofs.BalanceLemmas.{row-of, row-tells}
use Rattle.selectors.proofs.balance.BalanceLatches.of.Goals as goal

pub invariant_of-result : goal.invariant_of-result
invariant_of-result c = row-of c.spread.result c.args.latches.now c.told-latches c.spread.ensures.value

pub returns : goal.returns
returns c = row-tells c.spread.result c.args.latches.now c.told-latches c.spread.ensures.value
