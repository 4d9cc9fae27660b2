use Rattle.match_panels.specs.DifferencesWords.Helper.{LacksInBefore}
use Rattle.wiring_lines.specs.JacksAndTape.HelperJacks.{Punches}
use Rattle.match_panels.proofs.differences.tapes.punch_in.Given as goal

abbrev pub invariant-loop-line : goal.invariant-loop-line
invariant-loop-line l = Punches (LacksInBefore l.one l.other l.channel l.line) l.initial.left l.left
