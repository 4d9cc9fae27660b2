use Rattle.net.specs.HubSets.{has_hub}
use Rattle.machine.specs.Steady.{nines_of}
use Rattle.machine.proofs.Rest.{none-nines}
use Rattle.machine.proofs.groups.comes_to_nines.Goals as goal

pub returns : goal.returns
returns c none =
    none-nines c.carries.result (has_hub c.args.picture.now) (nines_of c.args.groups.now) c.carries.ensures
    (c.meets_nines.ensures none)
