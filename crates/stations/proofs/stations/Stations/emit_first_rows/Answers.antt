use Rattle.std.proofs.Common.{◌∙◌, ◌||◌, ap}
use Rattle.card_code.specs.Rows.{passing_place}
use Rattle.net.specs.HubRows.{has_row_at}
use Rattle.stations.specs.Stations.{StationCards, first_emits}
use Rattle.stations.proofs.ColumnSets.{first_columns}
use Rattle.stations.proofs.stations.Stations.emit_first_rows.Goals as goal

pub returns : goal.returns
returns c row hub =
    c.insert_sets.ensures (passing_place row) hub
    ∙ ap (λ b. has_row_at c.args.sets.now (passing_place row) hub || b)
    (first_columns _ _ row hub c.columns_at.ensures
    ∙ ap (λ (cards : StationCards). first_emits cards.first row hub) c.self.view_is)
