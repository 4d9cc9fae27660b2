-- What contracts see of the fields of a tape and of a setup.
use Rattle.std.specs.Prelude.{map}
use Rattle.hubs.specs.SetupsWords.Tapes.{CarriageTape}
use Rattle.hubs.specs.SetupsWords.Wiring.{Wiring}
use Rattle.hubs.specs.declared.setups.setup.Setup.TheInside as setup
use Rattle.hubs.specs.declared.setups.tape.Tape.TheInside as tape

-- the form of a tape
abbrev pub carriage_tape : tape.Inside → CarriageTape
carriage_tape t = record { lines = t.lines; first = t.first; overflow = t.overflow; stops = t.stops }

-- the wires of a setup by the numbers of their exits, its jacks by their places, and its tape
abbrev pub wiring_of : setup.Inside → Wiring
wiring_of s = record { wires = map (λ v. v.items) s.wires.items; jacks = s.jacks; tape = s.tape }
