use Rattle.std.proofs.Common.{◌≡◌, ◌++◌, map, take, drop}
use Rattle.report_misfits.specs.HelperPending.{emptied}
use Rattle.report_misfits.proofs.open_total.clear_all.Given as goal

abbrev pub invariant-loop-amount : goal.invariant-loop-amount
invariant-loop-amount l = l.amounts ≡ map emptied (take l.amount-index l.fn.amounts) ++ drop l.amount-index l.fn.amounts
