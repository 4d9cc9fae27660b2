use Rattle.std.proofs.Common.{◌∙◌, ap, ◌||◌}
use Rattle.net.specs.HubSets.{has_hub}
use Rattle.stations.specs.Stations.{StationCards, second_emits}
use Rattle.stations.proofs.RowHubs.{second_row}
use Rattle.stations.proofs.stations.Stations.emit_second.Goals as goal

pub returns : goal.returns
returns c hub =
    c.insert_row.ensures hub
    ∙ ap (λ b. has_hub c.args.exits.now hub || b)
    (second_row _ c.row_at.result c.args.row hub c.row_at.ensures
    ∙ ap (λ (cards : StationCards). second_emits cards.second c.args.row hub) c.self.view_is)
