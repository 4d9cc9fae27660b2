use Rattle.std.proofs.Common.{bit_or, take, drop}
use Rattle.std.proofs.lemmas.Simd.{length-put_chunk}
use lib.Lanes.{zip2}
use Rattle.machine_sets.proofs.SpreadsWords.ContactRuns.{are_eight, eight-gained, is-written}
use Rattle.machine_sets.proofs.spreads.lanes.join_eight.Goals as goal

pub returns-clause-joined : goal.returns-clause-joined
returns-clause-joined c place row =
    let eight = are_eight c.args.sets.now c.args.rows c.args.first place row c.told-sets c.requires.within c.requires.eight in
    rw (
      c.eight_from.ensures,
      is-written c.args.sets.now (zip2 bit_or (take 8 (drop c.args.first c.args.sets.now)) c.args.rows) c.args.first c.told-sets c.requires.within eight,
    )
    (eight-gained c.args.sets.now c.args.rows c.args.first place row c.told-sets c.requires.within c.requires.eight)

pub returns-clause-long : goal.returns-clause-long
returns-clause-long c =
    let eight = are_eight c.args.sets.now c.args.rows c.args.first 0 0 c.told-sets c.requires.within c.requires.eight in
    rw (
      c.eight_from.ensures,
      is-written c.args.sets.now (zip2 bit_or (take 8 (drop c.args.first c.args.sets.now)) c.args.rows) c.args.first c.told-sets c.requires.within eight,
      length-put_chunk,
    ) c.told-sets
