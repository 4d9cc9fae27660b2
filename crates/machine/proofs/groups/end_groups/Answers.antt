use Rattle.std.proofs.Common.{◌∙◌}
use Rattle.machine.proofs.Rest.{busy-ends}
use Rattle.machine.proofs.groups.end_groups.Goals as goal

pub returns : goal.returns
returns c =
    c.end_marked.ensures ∙ busy-ends c.ending.result c.args.busy c.args.groups.now c.args.cycle c.ending.ensures c.requires
