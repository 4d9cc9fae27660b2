use Rattle.std.proofs.Common.{◌≡◌, ◌≢◌, arith, rules}
use Rattle.std.proofs.lemmas.Bool.Decides.{nat_tests}
use Rattle.machine_sets.proofs.BitSets.PlaceLemmas.{apart-words, common-more, none-more}
use Rattle.machine_sets.proofs.bit_sets.search.meet.Goals as goal

pub loop-number-preserved : goal.loop-number-preserved
loop-number-preserved c = record {
  none = none-more c.args.one.now c.args.other.now c.loop-number.number c.loop-number.both c.loop-number.invariant.none;
  some =
      common-more c.args.one.now c.args.other.now c.loop-number.number c.loop-number.both (search rules)
      c.loop-number.invariant.some;
}

pub returns-clause-apart : goal.returns-clause-apart
returns-clause-apart c none =
    let empty : c.loop-number.both ≡ 0 = grind (arith, nat_tests, none) in
    apart-words c.args.one.now c.args.other.now
    (λ k low. c.loop-number.invariant.none empty k (omega (arith, low, c.told-one, c.loop-number-test.false)))

pub returns-clause-common : goal.returns-clause-common
returns-clause-common c met =
    let some : c.loop-number.both ≢ 0 = grind (arith, nat_tests, met) in
    c.loop-number.invariant.some some
