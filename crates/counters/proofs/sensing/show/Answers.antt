use Rattle.std.proofs.Common.{reverse}
use Rattle.net.proofs.Rows.{GainsHubs-same}
use Rattle.net.specs.HubSets.{is_in_row}
use Rattle.hubs.specs.declared.hub.Hub.TheVariants.{GX}
use Rattle.counters.specs.Counters.{shows}
use Rattle.counters.proofs.ShownRows.{shows-row}
use Rattle.counters.proofs.sensing.show.Goals as goal

pub returns : goal.returns
returns c =
    GainsHubs-same (is_in_row (GX c.args.name 1) c.positions_of.result) (shows c.args.name c.args.given (reverse c.args.digits.now))
    c.args.exits.now c.insert_row.new.self
    (λ hub. shows-row c.args.name c.args.given c.args.digits.now c.positions_of.result hub c.requires.width c.requires.named c.requires.positions c.positions_of.ensures)
    c.insert_row.ensures
