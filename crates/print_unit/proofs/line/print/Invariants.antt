use Rattle.std.proofs.Common.{◌*◌}
use Rattle.print_unit.specs.WheelWords.{HasPrinted}
use Rattle.print_unit.proofs.line.print.Given as goal

-- the eights so far are printed
abbrev pub invariant-loop-eight : goal.invariant-loop-eight
invariant-loop-eight l = HasPrinted l.sets (8 * l.eight) l.line
