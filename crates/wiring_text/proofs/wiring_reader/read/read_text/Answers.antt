use Rattle.wiring_text.proofs.WiringReader.NewSetup.{holds_nothing}
use Rattle.wiring_text.proofs.wiring_reader.read.read_text.Goals as goal

pub read_lines-requires-clause-new : goal.read_lines-requires-clause-new
read_lines-requires-clause-new c =
    let tape = c.in-Some-tape_of.ensures in
    holds_nothing _ c.in-Some-tape_of.tape c.new.result tape.made tape.formed tape.stops c.new.ensures.tape
    c.new.ensures.wires c.new.ensures.jacks
