use Rattle.explain_ledgers.proofs.CycleWays.Digits.{digits-told}
use Rattle.explain_ledgers.proofs.cycle_ways.laws.ways_tell_digits.Goals as goal

pub returns : goal.returns
returns c = digits-told
