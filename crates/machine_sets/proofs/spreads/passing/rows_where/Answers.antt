use Rattle.std.proofs.Common.{◌∙◌, ap, sym, ◌&&◌}
use Rattle.machine_sets.proofs.BitSets.BitLemmas.{is_bit-zero}
use Rattle.machine_sets.specs.BitSets.Bits.{is_bit}
use Rattle.machine_sets.proofs.spreads.passing.rows_where.Goals as goal

pub returns-else-test : goal.returns-else-test
returns-else-test c row = is_bit-zero row ∙ ap (λ b. b && is_bit c.args.rows row) (sym c.if-test.false)
