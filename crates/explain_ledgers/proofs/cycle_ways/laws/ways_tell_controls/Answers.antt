use Rattle.explain_ledgers.proofs.CycleWays.Controls.{controls-told}
use Rattle.explain_ledgers.proofs.cycle_ways.laws.ways_tell_controls.Goals as goal

pub returns : goal.returns
returns c = controls-told
