use Rattle.std.proofs.Common.{sym, subst, arith, ◌+◌, ◌<◌, length}
use Rattle.std.proofs.lemmas.Grind.{common_steps}
use Rattle.std.proofs.lemmas.List.{get_or_default}
use Rattle.net.specs.HubSets.{has_hub}
use Rattle.machine.specs.Kept.{nothing_kept}
use Rattle.machine.specs.declared.kept.KeptPoint.{KeptPoint}
use Rattle.explain_wheels.specs.WaysWords.Tables.{AreWaysOf}
use Rattle.explain_wheels.specs.ExplanationsWords.Rows.{AreRowWays}
use Rattle.explain_wheels.proofs.ExplanationsWords.RowLists.{AreRowWays-more}
use Rattle.explain_wheels.proofs.explanations.rows.row_ways.Goals as goal

pub loop-row-preserved : goal.loop-row-preserved
loop-row-preserved c =
    let points = c.args.kept.now.points in
    let row = c.loop-row.row in
    let within : row + 1 < length points = grind (arith, common_steps) in
    let read = get_or_default points (row + 1) c.index-kept-row.result nothing_kept within in
    subst (AreRowWays c.args.setup.now points (row + 1)) (sym (c.in_ok-push.ensures.items))
    (AreRowWays-more c.args.setup.now points row c.loop-row.ways.items c.of.result c.loop-row.invariant
    (subst (λ (p : KeptPoint). AreWaysOf c.args.setup.now (has_hub p.exits) (has_hub p.contacts) c.of.result) read c.of.ensures))
