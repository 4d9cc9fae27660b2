use Rattle.std.proofs.Common.{rules}
use Rattle.std.proofs.lemmas.Result.{on_ok_weaker}
use Rattle.wiring_lines.proofs.LineWires.Steps.{adds-both, adds-by, adds-no_value, adds-some}
use Rattle.wiring_lines.specs.Below.wiring_table.Parts.{top_group}
use Rattle.wiring_totals.specs.HelperTotalRows.{TotalMark}
use Rattle.wiring_totals.proofs.total.wire_signed_total.Goals as goal

pub returns-in_default : goal.returns-in_default
returns-in_default c = adds-both c.in_ok-wire_conversion.ensures (adds-no_value (search rules))

pub returns : goal.returns
returns c =
    let level = c.args.total.now.level in
    on_ok_weaker c.wire_total_mark.result
    (λ last. adds-both c.in_ok-wire_conversion.ensures
    (adds-some c.in-Some.is
    (adds-by (λ wheel. TotalMark level wheel c.in-Some.mark (top_group c.args.counter))
    (adds-by (TotalMark level c.mark_wheel-wheel.result c.in-Some.mark) last c.top_group.ensures.value) c.mark_wheel-wheel.ensures)))
    c.wire_total_mark.ensures
