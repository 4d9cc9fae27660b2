use Rattle.std.proofs.Common.{◌∙◌, sym, ℕ, arith}
use Rattle.std.proofs.lemmas.Bool.{true≢false}
use Rattle.hubs.specs.declared.hub.Hub.TheVariants.{EM}
use Rattle.wiring_lines.specs.LineWires.HelperAdds.{One}
use Rattle.wiring_lines.proofs.LineWires.Steps.{adds-by, adds-nowhere, adds-where, upto-all, upto-more, upto-none}
use Rattle.wiring_lines.proofs.line_wires.character.wire_rows.Goals as goal
use Rattle.wiring_lines.proofs.line_wires.character.wire_rows.Goals.{then-has_row+in_ok-connect, else-has_row}

pub loop-row-init : goal.loop-row-init
loop-row-init c = upto-none

pub loop-row-preserved : goal.loop-row-preserved
loop-row-preserved c =
    elim c.if-has_row.branch [
      | then-has_row+in_ok-connect w ↦ rw w.setup-is
          (upto-more c.loop-row.invariant
          (adds-where (sym c.has_row.ensures ∙ w.if-has_row.true)
          (adds-by (λ (number : ℕ). One (EM c.args.emitter number) c.args.entry) w.in_ok-connect.ensures w.number.ensures.value)))
      | else-has_row w ↦ rw w.setup-is
          (upto-more c.loop-row.invariant (adds-nowhere (λ there. true≢false (sym there ∙ sym c.has_row.ensures ∙ w.if-has_row.false))))
    ]

pub returns : goal.returns
returns c = upto-all c.loop-row.invariant (omega arith)
