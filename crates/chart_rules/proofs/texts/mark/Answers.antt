use Rattle.std.proofs.Common.{arith}
use Rattle.chart_rules.proofs.TextMarks.{marked-more}
use Rattle.chart_rules.proofs.texts.mark.Goals as goal

pub loop-place-preserved : goal.loop-place-preserved
loop-place-preserved c =
    marked-more c.args.first c.loop-place.place c.args.masks.now c.loop-place.masks (omega arith) c.loop-place.invariant
