use Rattle.hubs.specs.declared.hub.Hub.TheVariants.{BAC, BAT, W}
use Rattle.std.proofs.Common.{slice_get, ◌+◌}
use Rattle.wiring_lines.specs.LineWires.HelperAdds.{Adds, Both, OfSome, One, Upto}
use Rattle.wiring_lines.specs.LineWires.HelperRows.{CharacterWires}
use Rattle.wiring_totals.proofs.total.wire_total_mark.Given as goal

abbrev pub invariant-loop-k : goal.invariant-loop-k
invariant-loop-k l =
    Adds (Upto l.k (λ k. OfSome (slice_get l.character-items k) (λ character. Both (CharacterWires l.emitter (BAC l.group (3 + k)) character) (One (BAT l.group (3 + k)) (W (l.wheel + k)))))) l.initial.setup l.setup
