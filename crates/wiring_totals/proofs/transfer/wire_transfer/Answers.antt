use Rattle.std.proofs.Common.{sym}
use Rattle.std.proofs.lemmas.Result.{on_ok_weaker}
use Rattle.wiring_lines.proofs.LineWires.Steps.{adds-both, adds-some}
use Rattle.wiring_totals.proofs.TotalLevels.{adds-next, adds-no_next}
use Rattle.wiring_totals.proofs.transfer.wire_transfer.Goals as goal

pub returns-in_default : goal.returns-in_default
returns-in_default c = adds-no_next c.in_default.ensures

pub returns : goal.returns
returns c =
    on_ok_weaker c.wire_transfer_sense.result
    (λ last. adds-next c.requires.alone c.in-Some.ensures
    (adds-some (sym c.in-Some-counter_on.ensures)
    (adds-both c.in_ok-wire_transfer_digits.ensures last)))
    c.wire_transfer_sense.ensures
