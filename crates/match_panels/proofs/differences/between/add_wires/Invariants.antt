use Rattle.match_panels.specs.DifferencesWords.Helper.{LacksFrom}
use Rattle.wiring_lines.specs.LineWires.HelperAdds.{Adds, Upto}
use Rattle.match_panels.proofs.differences.between.add_wires.Given as goal

abbrev pub invariant-loop-number : goal.invariant-loop-number
invariant-loop-number l = Adds (Upto l.number (LacksFrom l.one l.other)) l.initial.left l.left
