use Rattle.std.specs.Prelude.{◌≡◌, ◌++◌, map, take}
use Rattle.std.specs.String.{string_bytes}
use Rattle.wiring_legend.specs.LineSetups.{plain}
use Rattle.wiring_legend.proofs.writing.write_plain.Given as goal

-- the bytes so far are written
abbrev pub invariant-loop-byte : goal.invariant-loop-byte
invariant-loop-byte l = string_bytes l.words ≡ string_bytes l.initial.words ++ map plain (take l.byte-index l.bytes)
