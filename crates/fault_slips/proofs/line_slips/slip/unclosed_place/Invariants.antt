use Rattle.std.proofs.Common.{◌≡◌, ◌<◌, drop, None, IfSome}
use Rattle.fault_slips.specs.LineSlips.Slips.{unclosed_from}
use Rattle.fault_slips.proofs.line_slips.slip.unclosed_place.Given as goal

abbrev pub invariant-loop-place : goal.invariant-loop-place
invariant-loop-place l =
    (unclosed_from None 0 l.line ≡ unclosed_from l.open l.place (drop l.place l.line)) × IfSome l.open (λ place. place < l.place)
