use Rattle.std.proofs.Common.{◌∙◌, ap, ℕ, true}
use Rattle.net.specs.HubRows.{has_at}
use Rattle.stations.specs.Kept.{card_of}
use Rattle.stations.proofs.ColumnSets.{row-read}
use Rattle.stations.proofs.KeptColumns.{kept-columns}
use Rattle.stations.proofs.RowWords.{no_bit}
use Rattle.stations.proofs.punches.row_at.Goals as goal

pub returns-then-is_there : goal.returns-then-is_there
returns-then-is_there c =
    rw c.if-is_there.true
    (row-read (card_of true c.args.columns.now) c.args.columns.now c.args.row c.row_of.result
    (kept-columns c.args.columns.now c.told-columns)
    (λ k. c.row_of.ensures k ∙ ap (λ (p : ℕ). has_at c.args.columns.now k p) c.place.ensures.value))

pub returns-else-is_there : goal.returns-else-is_there
returns-else-is_there c = rw c.if-is_there.false (λ bit. no_bit bit)
