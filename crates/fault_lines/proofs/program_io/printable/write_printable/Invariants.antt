use Rattle.std.proofs.Common.{map, take}
use Rattle.std.specs.Io.KnownBytes.{Appends}
use Rattle.fault_lines.specs.ProgramIo.Printable.{printable}
use Rattle.fault_lines.proofs.program_io.printable.write_printable.Given as goal

-- the bytes so far are written
abbrev pub invariant-loop-byte : goal.invariant-loop-byte
invariant-loop-byte g l = Appends (g.W.Write.contents l.initial.out) (g.W.Write.contents l.out) (map printable (take l.byte-index l.bytes))
