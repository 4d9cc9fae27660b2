use Rattle.hubs.specs.declared.hub.Hub.TheVariants.{BAC, BAT}
use Rattle.std.proofs.Common.{arith, ◌+◌}
use Rattle.std.proofs.lemmas.Option.{slice_get-get_or}
use Rattle.wiring_lines.proofs.LineWires.Steps.{adds-both, adds-by, adds-some, upto-all, upto-more, upto-none}
use Rattle.wiring_lines.specs.Below.wiring_table.Figures.{mark_text}
use Rattle.wiring_lines.specs.LineWires.HelperRows.{MarkWires}
use Rattle.wiring_totals.proofs.total.wire_total_mark.Goals as goal

pub loop-k-init : goal.loop-k-init
loop-k-init c = upto-none

pub loop-k-preserved : goal.loop-k-preserved
loop-k-preserved c =
    upto-more c.loop-k.invariant
    (adds-some (slice_get-get_or c.mark_characters-character-items.result.now c.loop-k.k 0 (omega (arith, c.loop-k-test.true)))
    (adds-both c.in_ok-wire_character.ensures c.in_ok-connect.ensures))

pub returns : goal.returns
returns c =
    adds-by (λ n. MarkWires (4 + n) c.args.wheel (mark_text c.args.mark) (λ k. BAC c.args.group (3 + k)) (λ k. BAT c.args.group (3 + k)))
    (adds-by (λ text. MarkWires (4 + c.number-emitter.result) c.args.wheel text (λ k. BAC c.args.group (3 + k)) (λ k. BAT c.args.group (3 + k)))
    (upto-all c.loop-k.invariant (omega arith))
    c.mark_characters-character-items.ensures.value) c.number-emitter.ensures
