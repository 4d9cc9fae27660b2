use Rattle.std.proofs.Common.{◌≡◌, ◌++◌, map, take, drop}
use Rattle.report_misfits.specs.HelperPending.{taking_card}
use Rattle.report_misfits.proofs.open_total.take_card.Given as goal

abbrev pub invariant-loop-amount : goal.invariant-loop-amount
invariant-loop-amount l = l.amounts ≡ map (taking_card l.card) (take l.amount-index l.fn.amounts) ++ drop l.amount-index l.fn.amounts
