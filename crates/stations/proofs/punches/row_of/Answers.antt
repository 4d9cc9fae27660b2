use Rattle.std.proofs.Common.{◌∙◌, ap, ℕ}
use Rattle.net.specs.HubSets.{is_bit}
use Rattle.stations.proofs.RowMasks.{columns-masked}
use Rattle.stations.proofs.punches.row_of.Goals as goal

pub returns : goal.returns
returns c k =
    columns-masked c.args.columns.now c.from-first.result c.from-last.result c.args.place k c.told-columns
    (λ j. ap (λ (w : ℕ). is_bit w j) c.from-first.ensures ∙ c.having_row.ensures j)
    (λ j. ap (λ (w : ℕ). is_bit w j) c.from-last.ensures ∙ c.having_row-2.ensures j)
