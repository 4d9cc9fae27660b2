use Rattle.std.proofs.Common.{◌∙◌, sym, ap}
use Rattle.hubs.specs.declared.hub.Group.{Group}
use Rattle.net.specs.HubSets.{has_hub}
use Rattle.counters.specs.Counters.{controls_of}
use Rattle.counters.proofs.sensing.controls_of.Goals as goal

pub returns : goal.returns
returns c =
    c.controls_in.ensures (has_hub c.args.picture.now) c.row.ensures.hubs
    ∙ ap (λ (n : Group). controls_of n (has_hub c.args.picture.now)) (sym c.requires.name)
