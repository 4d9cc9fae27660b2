use Rattle.std.proofs.Common.{◌≡◌, drop}
use Rattle.std.specs.List.{filter_map}
use Rattle.report_definition.specs.Misfits.{first_of}
use Rattle.report_misfits.specs.OpenTotals.{misfit_at}
use Rattle.report_misfits.proofs.open_total.first_misfit_at.Given as goal

abbrev pub invariant-loop-total : goal.invariant-loop-total
invariant-loop-total l =
    first_of (filter_map (misfit_at l.level l.card) l.totals) ≡ first_of (filter_map (misfit_at l.level l.card) (drop l.total-index l.totals))
