use Rattle.std.proofs.Common.{◌∙◌, ◌⊎◌, ◌≤◌, ◌+◌, ◌/◌, ◌||◌, sym, ap, arith, rules}
use Rattle.std.proofs.Math.Bool.{or-false}
use Rattle.std.proofs.lemmas.Grind.{common_steps}
use Rattle.machine_sets.specs.BitSets.Bits.{has_place, is_in_run}
use Rattle.machine_sets.proofs.BitSets.PlaceLemmas.{place_gains, before_first, before_next, before_last}
use Rattle.machine_sets.proofs.bit_sets.places.put_run.Goals as goal

pub loop-number-init : goal.loop-number-init
loop-number-init c = record {
  long = c.told-words;
  gained = λ k. sym (ap (λ b. has_place c.args.words.now k || b) (before_first c.args.first c.args.bits k) ∙ or-false _);
}

pub loop-number-preserved : goal.loop-number-preserved
loop-number-preserved c = record {
  long = search rules;
  gained = λ k.
      before_next c.loop-number.number k (is_in_run c.args.first c.args.bits k) _ _ _
      (place_gains (is_in_run c.args.first c.args.bits) c.loop-number.words c.loop-number.number c.word_of_run.result
      (search rules) c.word_of_run.ensures k)
      (c.loop-number.invariant.gained k);
}

pub returns : goal.returns
returns c place =
    let end : (31 ≤ c.loop-number.number) ⊎ (c.args.first / 64 + 3 ≤ c.loop-number.number) = grind (arith, common_steps) in
    c.loop-number.invariant.gained place
    ∙ ap (λ b. has_place c.args.words.now place || b)
    (before_last c.loop-number.number c.args.first c.args.bits place c.ranges.bits.fits end (omega arith))
