use Rattle.std.proofs.Common.{ℕ, ◌≡◌, ◌+◌, arith, subst}
use Rattle.machine_sets.specs.BitSets.Rows.{GainsLed, is_in_words}
use Rattle.machine_sets.proofs.BitSets.LedLemmas.{GainsLed-words}
use Rattle.machine_sets.proofs.bit_sets.rows.Rows.join_four.Goals as goal

pub returns : goal.returns
returns c =
    let at : ℕ = c.args.at in
    let end_two : c.args.at + 1 + 1 ≡ c.args.at + 2 = omega arith in
    let end_three : c.args.at + 2 + 1 ≡ c.args.at + 3 = omega arith in
    let end_four : c.args.at + 3 + 1 ≡ c.args.at + 4 = omega arith in
    let words = GainsLed-words c.args.self.now at in
    let two = words (at + 1) (at + 2) (omega arith) (omega arith) c.args.words.now c.join_word.new.words c.join_word-2.new.words c.join_word.ensures.gains
    (subst (λ (n : ℕ). GainsLed c.args.self.now (is_in_words (at + 1) n c.join_word.new.words) c.join_word.new.words c.join_word-2.new.words)
    end_two c.join_word-2.ensures.gains) in
    let three = words (at + 2) (at + 3) (omega arith) (omega arith) c.args.words.now c.join_word-2.new.words c.join_word-3.new.words two
    (subst (λ (n : ℕ). GainsLed c.args.self.now (is_in_words (at + 2) n c.join_word-2.new.words) c.join_word-2.new.words c.join_word-3.new.words)
    end_three c.join_word-3.ensures.gains) in
    words (at + 3) (at + 4) (omega arith) (omega arith) c.args.words.now c.join_word-3.new.words c.join_word-4.new.words three
    (subst (λ (n : ℕ). GainsLed c.args.self.now (is_in_words (at + 3) n c.join_word-3.new.words) c.join_word-3.new.words c.join_word-4.new.words)
    end_four c.join_word-4.ensures.gains)
