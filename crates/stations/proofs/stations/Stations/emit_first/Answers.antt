use Rattle.std.proofs.Common.{◌∙◌, ap, ◌||◌}
use Rattle.net.specs.HubSets.{has_hub}
use Rattle.stations.specs.Stations.{StationCards, first_emits}
use Rattle.stations.proofs.RowHubs.{first_row}
use Rattle.stations.proofs.stations.Stations.emit_first.Goals as goal

pub returns : goal.returns
returns c hub =
    c.insert_row.ensures hub
    ∙ ap (λ b. has_hub c.args.exits.now hub || b)
    (first_row _ c.row_at.result c.args.row hub c.row_at.ensures
    ∙ ap (λ (cards : StationCards). first_emits cards.first c.args.row hub) c.self.view_is)
