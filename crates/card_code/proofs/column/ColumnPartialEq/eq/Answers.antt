use Rattle.card_code.proofs.Columns.{same-columns}
use Rattle.card_code.proofs.column.ColumnPartialEq.eq.Goals as goal

pub returns : goal.returns
returns c =
    rw (← c.self.view_is, ← c.other.view_is)
    (same-columns c.self.inside.set c.other.inside.set c.self.invariant c.other.invariant)
