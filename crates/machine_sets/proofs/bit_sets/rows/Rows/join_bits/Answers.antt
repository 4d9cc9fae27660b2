use Rattle.std.proofs.Common.{arith}
use Rattle.machine_sets.proofs.BitSets.BitLemmas.{lowest_bit, is_bit-kept, taken_lower}
use Rattle.machine_sets.proofs.BitSets.LedLemmas.{GainsLed-start, GainsLed-bit, GainsLed-word}
use Rattle.machine_sets.proofs.bit_sets.rows.Rows.join_bits.Goals as goal

pub loop-left-init : goal.loop-left-init
loop-left-init c = record {
  within = λ j at. at;
  led = GainsLed-start c.args.self.now c.args.first c.args.bits c.args.words.now;
}

pub loop-left-preserved : goal.loop-left-preserved
loop-left-preserved c =
    let lowest = lowest_bit c.loop-left.left (omega arith) c.loop-left.auto.left-fits.fits in
    record {
      within = λ j at. c.loop-left.invariant.within j (is_bit-kept c.loop-left.left _ j at);
      led = GainsLed-bit c.args.self.now c.args.first c.args.bits c.loop-left.left _ _ _ _ lowest.0 c.loop-left.auto.left-fits.fits lowest.1
          c.loop-left.invariant.within c.loop-left.invariant.led c.join_place.ensures;
    }

pub loop-left-smaller : goal.loop-left-smaller
loop-left-smaller c = taken_lower c.loop-left.left (omega arith) c.loop-left.auto.left-fits.fits

pub returns : goal.returns
returns c =
    GainsLed-word c.args.self.now c.args.first c.args.bits c.loop-left.left _ _ c.loop-left-test.false c.loop-left.invariant.led
