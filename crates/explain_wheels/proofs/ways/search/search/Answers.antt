use Rattle.explain_wheels.proofs.WaysWords.Layers.{IsLayered-start, IsLayered-next, IsStepTable-end}
use Rattle.explain_wheels.proofs.ways.search.search.Goals as goal

pub loop-level-init : goal.loop-level-init
loop-level-init c = IsLayered-start _ _ c.starts-steps.result c.starts-steps.ensures

pub loop-level-preserved : goal.loop-level-preserved
loop-level-preserved c =
    IsLayered-next _ _ c.loop-level.level c.loop-level.steps c.spread_all.new.steps _ c.loop-level.invariant c.spread_all.ensures
    c.loop-level-test.true

pub returns : goal.returns
returns c =
    IsStepTable-end _ _ c.loop-level.level c.loop-level.steps c.spread_all.new.steps _ c.loop-level.invariant c.spread_all.ensures
    c.loop-level-test.false
