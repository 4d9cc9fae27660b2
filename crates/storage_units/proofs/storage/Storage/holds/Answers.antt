use Rattle.std.proofs.Common.{◌∙◌, ap}
use Rattle.storage_units.specs.Storage.{holds}
use Rattle.storage_units.proofs.ColumnSets.{word-column}
use Rattle.storage_units.proofs.storage.Storage.holds.Goals as goal

pub returns-then-column-le-COLUMNS : goal.returns-then-column-le-COLUMNS
returns-then-column-le-COLUMNS c =
    let within = c.if-column-le-COLUMNS.true in
    c.has_bit.ensures
    ∙ word-column c.self.inside.held c.args.row c.args.column c.place.result within.0 within.1 c.place.ensures.value
    ∙ ap (λ unit. holds unit c.args.row c.args.column) c.self.view_is
