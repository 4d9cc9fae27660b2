use Rattle.hubs.specs.declared.hub.Hub.TheVariants.{PIC, W}
use Rattle.std.proofs.Common.{slice_get, ◌+◌}
use Rattle.wiring_lines.specs.LineWires.HelperAdds.{Adds, Both, OfSome, One, Upto}
use Rattle.wiring_lines.specs.LineWires.HelperRows.{CharacterWires}
use Rattle.wiring_table.specs.Parts.{negative_side}
use Rattle.wiring_lines.proofs.line_wires.pilot.wire_detail_mark.Given as goal

abbrev pub invariant-loop-k : goal.invariant-loop-k
invariant-loop-k l =
    Adds (Upto l.k (λ k. OfSome (slice_get l.character-items k) (λ character. Both (CharacterWires 4 (PIC l.pilot (2 + k)) character) (One (negative_side l.rule l.pilot (2 + k)) (W (l.wheel + k)))))) l.initial.setup l.setup
