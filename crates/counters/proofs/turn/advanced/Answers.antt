use Rattle.std.proofs.Common.{arith}
use Rattle.counters.proofs.Packed.{advanced-number}
use Rattle.counters.proofs.turn.advanced.Goals as goal

pub returns-clause-sum : goal.returns-clause-sum
returns-clause-sum c =
    let parts = advanced-number c.args.controls c.args.digits c.args.entered (omega arith) in
    omega (arith, parts, c.bases.ensures.bases, c.advances.ensures.advances)
