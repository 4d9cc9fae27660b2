use Rattle.print_unit.specs.WheelWords.{HasPrinted}
use Rattle.print_unit.proofs.line.print_wheels.Given as goal

-- the wheels so far are printed
abbrev pub invariant-loop-k : goal.invariant-loop-k
invariant-loop-k l = HasPrinted l.sets l.k l.line
