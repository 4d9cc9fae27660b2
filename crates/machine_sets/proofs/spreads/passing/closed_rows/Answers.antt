use Rattle.std.proofs.Common.{◌∙◌, ap, ◌&&◌}
use Rattle.machine_sets.specs.BitSets.Bits.{is_bit}
use Rattle.machine_sets.proofs.SpreadsWords.PassLemmas.{closed-at}
use Rattle.machine_sets.proofs.spreads.passing.closed_rows.Goals as goal

pub returns : goal.returns
returns c row =
    closed-at c.args.digits.now c.args.zones.now c.args.place row c.rows_where.result c.rows_where-2.result
    (c.rows_where.ensures row ∙ ap (λ b. b && is_bit 1023 row) c.has_within.ensures)
    (c.rows_where-2.ensures row ∙ ap (λ b. b && is_bit 3072 row) c.has_within-2.ensures)
