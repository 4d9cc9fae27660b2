use Rattle.hubs.specs.declared.hub.Hub.TheVariants.{W}
use Rattle.std.proofs.Common.{slice_get, ◌+◌}
use Rattle.wiring_lines.specs.LineWires.HelperAdds.{Adds, OfSome, Upto}
use Rattle.wiring_lines.specs.LineWires.HelperRows.{CharacterWires}
use Rattle.wiring_lines.proofs.line_wires.character.wire_literal.Given as goal

abbrev pub invariant-loop-j : goal.invariant-loop-j
invariant-loop-j l =
    Adds (Upto l.j (λ j. OfSome (slice_get l.text j) (λ character. CharacterWires l.emitter (W (l.wheel + j)) character))) l.initial.setup l.setup
