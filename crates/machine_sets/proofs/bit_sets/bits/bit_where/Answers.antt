use Rattle.std.proofs.Common.{◌∙◌, ap, ◌*◌, ◌%◌, ◌^◌}
use Rattle.machine_sets.specs.BitSets.Bits.{is_bit}
use Rattle.machine_sets.proofs.BitSets.BitLemmas.{is_bit-where}
use Rattle.machine_sets.proofs.bit_sets.bits.bit_where.Goals as goal

pub returns : goal.returns
returns c other =
    ap (λ n. is_bit (n * 2 ^ c.args.bit % 2 ^ 64) other) c.from.ensures
    ∙ is_bit-where c.args.test c.args.bit other c.requires
