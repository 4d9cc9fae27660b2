use Rattle.std.proofs.Common.{◌∙◌, ap, ◌*◌, ◌%◌, ◌^◌}
use Rattle.net.proofs.Below.machine_sets.BitSets.BitLemmas.{is_bit-where}
use Rattle.net.specs.HubSets.{is_bit}
use Rattle.machine.proofs.groups.bit_where.Goals as goal

pub returns : goal.returns
returns c other =
    ap (λ n. is_bit (n * 2 ^ c.args.bit % 2 ^ 64) other) c.from.ensures
    ∙ is_bit-where c.args.test c.args.bit other c.requires
