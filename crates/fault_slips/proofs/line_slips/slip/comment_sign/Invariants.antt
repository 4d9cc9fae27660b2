use Rattle.std.proofs.Common.{◌≡◌, drop, false}
use Rattle.fault_slips.specs.LineSlips.Slips.{comment_from}
use Rattle.fault_slips.proofs.line_slips.slip.comment_sign.Given as goal

abbrev pub invariant-loop-place : goal.invariant-loop-place
invariant-loop-place l = comment_from false 0 l.line ≡ comment_from l.is_open l.place (drop l.place l.line)
