use Rattle.std.proofs.Common.{arith}
use Rattle.machine_sets.proofs.BitSets.ShortLemmas.{short_whole}
use Rattle.machine_sets.proofs.bit_sets.shorts.short_of.Goals as goal

pub returns : goal.returns
returns c = record {
  first = omega (arith, c.first_word-first.ensures);
  last = omega (arith, c.last_word-last.ensures);
  whole = λ is place.
      short_whole c.args.row.now c.first_word-first.result c.last_word-last.result c.told-row c.first_word-first.ensures c.last_word-last.ensures
      (c.has_no_other.ensures is) place;
}
