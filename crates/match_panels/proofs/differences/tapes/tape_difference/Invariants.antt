use Rattle.match_panels.specs.DifferencesWords.Helper.{LacksInLower}
use Rattle.wiring_lines.specs.JacksAndTape.HelperJacks.{Punches}
use Rattle.match_panels.proofs.differences.tapes.tape_difference.Given as goal

abbrev pub invariant-loop-channel : goal.invariant-loop-channel
invariant-loop-channel l = Punches (LacksInLower l.one l.other l.channel) l.initial.left l.left
