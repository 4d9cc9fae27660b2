use Rattle.std.proofs.Common.{◌≡◌, ◌-◌, []}
use Rattle.report_misfits.specs.HelperTotals.{misfits_among}
use Rattle.report_misfits.proofs.open_total.first_misfit_to.Given as goal

abbrev pub invariant-loop-level : goal.invariant-loop-level
invariant-loop-level l = misfits_among l.totals l.card (l.level - 1) ≡ []
