use Rattle.card_code.proofs.Columns.{column-with, with-small}
use Rattle.card_code.proofs.column.Column.with_row.Goals as goal

pub returns : goal.returns
returns c = rw (← c.self.view_is) (column-with c.self.inside.set c.place.result c.args.row c.self.invariant c.place.ensures.value)

pub invariant_of-result : goal.invariant_of-result
invariant_of-result c = with-small c.self.inside.set c.place.result c.self.invariant c.place.ensures.range
