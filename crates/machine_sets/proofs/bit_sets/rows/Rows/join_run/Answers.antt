use Rattle.std.proofs.Common.{ℕ, ◌+◌, ◌||◌, ◌∙◌, sym}
use Rattle.machine_sets.specs.BitSets.Bits.{is_in_run}
use Rattle.machine_sets.proofs.BitSets.LedLemmas.{GainsLed-like, GainsLed-then, in_halves}
use Rattle.machine_sets.proofs.bit_sets.rows.Rows.join_run.Goals as goal

pub returns : goal.returns
returns c =
    let low = c.low_word.result in
    let high = c.low_word-2.result in
    let halves = λ (from : ℕ). in_halves c.args.first c.args.bits low high from c.ranges.bits.fits c.low_word.type_inv c.low_word-2.type_inv c.low_word.ensures c.low_word-2.ensures in
    GainsLed-like c.args.self.now (λ place. is_in_run c.args.first low place || is_in_run (c.args.first + 64) high place)
    (is_in_run c.args.first c.args.bits) c.args.words.now _
    (λ from to at leads. sym (halves from) ∙ at) (λ from at. halves from ∙ at)
    (GainsLed-then c.args.self.now (is_in_run c.args.first low) (is_in_run (c.args.first + 64) high) c.args.words.now _ _
    c.join_some.ensures c.join_some-2.ensures)
