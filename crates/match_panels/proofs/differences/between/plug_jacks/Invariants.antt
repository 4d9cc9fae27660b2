use Rattle.match_panels.specs.DifferencesWords.Helper.{LacksBefore}
use Rattle.wiring_lines.specs.JacksAndTape.HelperJacks.{Plugs}
use Rattle.match_panels.proofs.differences.between.plug_jacks.Given as goal

abbrev pub invariant-loop-place : goal.invariant-loop-place
invariant-loop-place l = Plugs (LacksBefore l.one l.other l.place) l.initial.left l.left
