use Rattle.std.proofs.Common.{◌∙◌, ◌||◌, ap}
use Rattle.card_code.specs.Rows.{passing_place}
use Rattle.net.specs.HubRows.{has_row_at}
use Rattle.stations.proofs.ColumnSets.{second_columns}
use Rattle.stations.proofs.stations.Stations.emit_second_rows.Goals as goal

pub returns : goal.returns
returns c row hub =
    c.insert_sets.ensures (passing_place row) hub
    ∙ ap (λ b. has_row_at c.args.sets.now (passing_place row) hub || b) (second_columns _ _ row hub c.second_columns.ensures)
