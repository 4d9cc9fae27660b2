use Rattle.std.proofs.Common.{refl}
use Rattle.card_code.specs.Columns.{column_of}
use Rattle.card_code.proofs.column.Column.blank.Goals as goal

pub returns : goal.returns
unfolding column_of
returns c = refl
