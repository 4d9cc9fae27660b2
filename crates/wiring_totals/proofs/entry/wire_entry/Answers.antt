use Rattle.std.proofs.lemmas.Result.{on_ok_weaker}
use Rattle.wiring_lines.proofs.LineWires.Steps.{adds-both, adds-by}
use Rattle.wiring_totals.specs.HelperTotalRows.{EntrySense}
use Rattle.wiring_totals.proofs.entry.wire_entry.Goals as goal

pub returns : goal.returns
returns c =
    on_ok_weaker c.wire_entry_sense.result
    (λ last. adds-both c.in_ok-wire_entry_digits.ensures
    (adds-by (EntrySense c.args.plan.now c.args.name c.args.counter) last c.rule_of-rule.ensures))
    c.wire_entry_sense.ensures
