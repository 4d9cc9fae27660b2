use Rattle.std.proofs.Common.{length}
use Rattle.wiring_text.specs.WiringReader.TextReading.{numbers_of_tape}
use Rattle.wiring_text.proofs.WiringReader.LineSteps.{ReadsSoFar}
use Rattle.wiring_text.proofs.wiring_reader.read.read_lines.Given as goal

abbrev pub invariant-loop-line : goal.invariant-loop-line
invariant-loop-line l = ReadsSoFar l.version (numbers_of_tape l.fn.setup.tape) l.setup l.ended l.number l.rest l.text

abbrev pub decreases-loop-line : goal.decreases-loop-line
decreases-loop-line l = length l.rest
