use Rattle.std.proofs.Common.{subst, sym}
use Rattle.net.specs.HubSets.{HubSet}
use Rattle.net.specs.Kinds.{HasEmitting}
use Rattle.net.proofs.kinds.emitting.Goals as goal

pub returns : goal.returns
returns c wiring rows cycle is_net to_entries is telling_is = subst (λ (set : HubSet). HasEmitting wiring cycle set) (sym c.exits.view_is)
    (c.exits_of-exits.ensures wiring cycle is
    (c.widest_told-told.ensures wiring rows cycle c.args.kind is_net to_entries is c.requires telling_is))
