use Rattle.std.proofs.Common.{◌≡◌, nat_lt, arith}
use Rattle.std.proofs.lemmas.Bool.Decides.{nat_tests}
use Rattle.net.proofs.Below.machine_sets.BitSets.BitLemmas.{is_bit-and, is_bit-ones}
use Rattle.net.specs.HubSets.{is_bit}
use Rattle.storage_units.proofs.columns.low_word.Goals as goal

pub returns : goal.returns
returns c k low =
    let both = is_bit-and c.args.row 65535 k in
    let ones : is_bit 65535 k ≡ nat_lt k 16 = is_bit-ones 16 k in
    grind (arith, nat_tests, both, ones, low)
