use Rattle.std.proofs.Common.{◌+◌}
use Rattle.machine_served.proofs.WaitsWords.AllWaits.{awaited}
use Rattle.machine_served.proofs.waits.waiting.waiting_for.Goals as goal

pub returns : goal.returns
returns c wiring is_net place =
    awaited wiring c.args.unit _ _ _ c.exits_of.ensures c.all_contacts.ensures (c.picture.ensures wiring is_net) (place + 1) _
    (c.readers.ensures place)
