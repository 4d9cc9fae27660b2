use Rattle.std.proofs.Common.{sym}
use Rattle.std.proofs.lemmas.Result.{on_ok_weaker}
use Rattle.wiring_lines.proofs.LineWires.Steps.{adds-some}
use Rattle.wiring_lines.proofs.line_wires.items.wire_detail_marks.Goals as goal

pub returns-in-Some-pilot_of : goal.returns-in-Some-pilot_of
returns-in-Some-pilot_of c =
    on_ok_weaker c.wire_detail_mark.result
    (λ last. adds-some c.in-Some.is (adds-some c.in-Some-rule.is (adds-some (sym c.in-Some-pilot_of.ensures.value) last)))
    c.wire_detail_mark.ensures
