use Rattle.std.proofs.Common.{◌≡◌, drop}
use Rattle.fault_slips.specs.WordSlips.Halts.{halt_among}
use Rattle.fault_slips.proofs.word_slips.halt.halt_among.Given as goal

-- the line leaves the forms where it does from here on
abbrev pub invariant-loop-place : goal.invariant-loop-place
invariant-loop-place l = halt_among l.places l.fn.first l.line ≡ halt_among (drop l.place-index l.places) l.stage l.line
