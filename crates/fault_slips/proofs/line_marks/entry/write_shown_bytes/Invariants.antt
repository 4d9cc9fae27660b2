use Rattle.std.proofs.Common.{map, take}
use Rattle.std.specs.Io.KnownBytes.{Appends}
use Rattle.fault_slips.specs.LineMarks.Entries.{shown_byte}
use Rattle.fault_slips.proofs.line_marks.entry.write_shown_bytes.Given as goal

-- the bytes so far are written
abbrev pub invariant-loop-byte : goal.invariant-loop-byte
invariant-loop-byte g l = Appends (g.W.Write.contents l.initial.out) (g.W.Write.contents l.out) (map shown_byte (take l.byte-index l.bytes))
