use Rattle.hubs.specs.declared.hub.Hub.TheVariants.{PIC}
use Rattle.std.proofs.Common.{arith, refl, ◌+◌}
use Rattle.std.proofs.lemmas.Option.{slice_get-get_or}
use Rattle.wiring_lines.proofs.LineWires.Steps.{adds-both, adds-by, adds-some, one-as, upto-all, upto-more, upto-none}
use Rattle.wiring_lines.specs.LineWires.HelperRows.{MarkWires}
use Rattle.wiring_table.specs.Parts.{negative_side}
use Rattle.wiring_lines.proofs.line_wires.pilot.wire_detail_mark.Goals as goal

pub loop-k-init : goal.loop-k-init
loop-k-init c = upto-none

pub loop-k-preserved : goal.loop-k-preserved
loop-k-preserved c =
    upto-more c.loop-k.invariant
    (adds-some (slice_get-get_or c.mark_characters-character-items.result.now c.loop-k.k 0 (omega (arith, c.loop-k-test.true)))
    (adds-both c.in_ok-wire_character.ensures (one-as c.in_ok-connect.ensures c.negative_side-side.ensures.value refl)))

pub returns : goal.returns
returns c =
    adds-by (λ text. MarkWires 4 c.args.wheel text (λ k. PIC c.args.pilot (2 + k)) (λ k. negative_side c.args.rule c.args.pilot (2 + k)))
    (upto-all c.loop-k.invariant (omega arith)) c.mark_characters-character-items.ensures.value
