use Rattle.std.proofs.Common.{List, ℕ, subst, arith, ◌∙◌, ap, ◌||◌, ◌&&◌, slice_index_or}
use Rattle.std.specs.Prelude.{nat_lt}
use Rattle.std.specs.Int.Bits.{bit_and}
use Rattle.std.proofs.lemmas.Nat.{and_le_l}
use Rattle.machine_sets.specs.BitSets.Bits.{has_place}
use Rattle.machine_sets.specs.BitSets.Bundles.{AreRows, follows}
use Rattle.machine_sets.specs.declared.bit_sets.contacts.Run.{Run}
use Rattle.machine_sets.proofs.BitSets.BundleLemmas.{GainsLed-word_bundled}
use Rattle.machine_sets.proofs.BitSets.LedLemmas.{GainsLed-marked}
use Rattle.machine_sets.proofs.bit_sets.rows.Rows.join_marked.Goals as goal

pub returns-then-by_runs-len : goal.returns-then-by_runs-len
returns-then-by_runs-len c =
    let are_rows = subst (λ (rows : List (List ℕ)). AreRows c.self.inside.marked c.self.inside.apart c.self.inside.runs.items c.self.inside.shorts.items rows) c.self.view_is c.self.invariant in
    GainsLed-marked c.args.self.now are_rows.short c.self.inside.marked c.args.words.now c.join_bits.new.words c.args.number are_rows.marks
    (c.fits-words c.args.number)
    (GainsLed-word_bundled c.args.self.now c.self.inside.marked c.self.inside.apart c.set_of_word.result c.self.inside.runs.items
    c.self.inside.shorts.items c.args.words.now c.follow_runs.new.words c.join_bits.new.words c.args.number
    (bit_and (slice_index_or c.args.words.now c.args.number 0) (slice_index_or c.self.inside.marked c.args.number 0))
    are_rows (omega (arith, and_le_l (slice_index_or c.args.words.now c.args.number 0) (slice_index_or c.self.inside.marked c.args.number 0), c.fits-words c.args.number)) c.set_of_word.ensures
    (λ place. c.follow_runs.ensures place
    ∙ ap (λ (runs : List Run). has_place c.args.words.now place || (nat_lt place 1984 && follows c.set_of_word.result runs place))
    c.deref.ensures.value)
    c.join_bits.ensures)

pub returns-else-by_runs-len : goal.returns-else-by_runs-len
returns-else-by_runs-len c =
    let are_rows = subst (λ (rows : List (List ℕ)). AreRows c.self.inside.marked c.self.inside.apart c.self.inside.runs.items c.self.inside.shorts.items rows) c.self.view_is c.self.invariant in
    GainsLed-marked c.args.self.now are_rows.short c.self.inside.marked c.args.words.now c.join_bits-else-by_runs-len.new.words c.args.number are_rows.marks
    (c.fits-words c.args.number) c.join_bits-else-by_runs-len.ensures
