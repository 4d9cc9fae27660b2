use Rattle.std.proofs.Common.{arith}
use Rattle.explain_wheels.proofs.WaysWords.Layers.{lead_range}
use Rattle.explain_wheels.proofs.ways.ways.before.Goals as goal

pub returns-clause-none : goal.returns-clause-none
returns-clause-none c is from less leads =
    let low = lead_range _ _ from c.args.to leads in
    let over = c.loop-from-test.false in
    c.loop-from.invariant from (omega (arith, low, over)) less leads
