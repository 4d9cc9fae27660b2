use Rattle.std.proofs.Common.{◌-◌, sym, arith, ◌<◌, length}
use Rattle.net.proofs.StraightRuns.{joined}
use Rattle.net.proofs.straight.add_wire.Goals as goal

pub returns-then-goes_on-clause-joined : goal.returns-then-goes_on-clause-joined
returns-then-goes_on-clause-joined c =
    let i = c.len-many.result - 1 in
    let low : i < length c.args.runs.now.items = omega arith in
    λ column wheel. joined c.args.runs.now.items i c.index.result.now c.index_mut.result.now c.args.column c.args.wheel column wheel low
    c.index.ensures c.index_mut.ensures.value (rw (sym c.goes_on.ensures) c.if-goes_on.true)
