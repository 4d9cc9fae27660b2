use Rattle.report_misfits.proofs.Deck.{Kept}
use Rattle.report_misfits.proofs.misfit.first_misfit.Given as goal

abbrev pub invariant-loop-place : goal.invariant-loop-place
invariant-loop-place l = Kept l.chart.lines l.cards l.place l.sums
