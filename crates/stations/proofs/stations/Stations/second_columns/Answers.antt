use Rattle.stations.proofs.stations.Stations.second_columns.Goals as goal

pub returns : goal.returns
returns c = rw (← c.self.view_is) c.columns_at.ensures
