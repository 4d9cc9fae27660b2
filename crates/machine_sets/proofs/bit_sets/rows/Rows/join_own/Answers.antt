use Rattle.std.proofs.Common.{ℕ, ◌≡◌, ◌+◌, ◌*◌, arith, subst}
use Rattle.machine_sets.specs.BitSets.Rows.{GainsLed, is_in_words}
use Rattle.machine_sets.proofs.BitSets.LedLemmas.{GainsLed-all, GainsLed-words}
use Rattle.machine_sets.proofs.bit_sets.rows.Rows.join_own.Goals as goal

pub loop-block-preserved : goal.loop-block-preserved
loop-block-preserved c =
    let next : 4 * c.loop-block.block + 4 ≡ 4 * (c.loop-block.block + 1) = omega arith in
    GainsLed-words c.args.self.now 0 (4 * c.loop-block.block) (4 * (c.loop-block.block + 1))
    (omega arith) (omega arith) c.args.words.now c.loop-block.words c.join_four.new.words c.loop-block.invariant
    (subst (λ (n : ℕ). GainsLed c.args.self.now (is_in_words (4 * c.loop-block.block) n c.loop-block.words) c.loop-block.words c.join_four.new.words)
    next c.join_four.ensures)

pub returns-clause-gains : goal.returns-clause-gains
returns-clause-gains c =
    let end : 4 * c.loop-block.block ≡ 16 = omega arith in
    GainsLed-all c.args.self.now c.join_word.ensures.short c.args.words.now c.join_word.new.words
    (GainsLed-words c.args.self.now 0 16 17 (omega arith) (omega arith) c.args.words.now
    c.loop-block.words c.join_word.new.words
    (subst (λ (n : ℕ). GainsLed c.args.self.now (is_in_words 0 n c.args.words.now) c.args.words.now c.loop-block.words) end c.loop-block.invariant)
    c.join_word.ensures.gains)
