use Rattle.std.proofs.Common.{slice_get}
use Rattle.match_panels.specs.DifferencesWords.Helper.{LacksTo}
use Rattle.wiring_lines.specs.LineWires.HelperAdds.{Adds, OfSome, Upto}
use Rattle.match_panels.proofs.differences.between.add_from.Given as goal

abbrev pub invariant-loop-entry : goal.invariant-loop-entry
invariant-loop-entry l = Adds (Upto l.entry-index (λ k. OfSome (slice_get l.entries k) (LacksTo l.other l.exit))) l.initial.left l.left
