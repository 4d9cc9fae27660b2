use Rattle.std.proofs.Common.{arith}
use Rattle.machine_sets.proofs.BitSets.JoinLemmas.{has_place-joined}
use Rattle.machine_sets.proofs.bit_sets.joins.join.Goals as goal

pub returns : goal.returns
returns c place =
    has_place-joined c.args.words.now c.args.row.now c.loop-number.words c.loop-number.number place c.told-row (omega arith)
    (omega arith) c.loop-number.invariant.joined
