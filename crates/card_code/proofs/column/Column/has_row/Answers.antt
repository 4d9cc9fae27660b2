use Rattle.card_code.proofs.Columns.{asks-row}
use Rattle.card_code.proofs.column.Column.has_row.Goals as goal

pub returns : goal.returns
returns c = rw (← c.self.view_is) (asks-row c.self.inside.set c.place.result c.args.row c.place.ensures.value)
