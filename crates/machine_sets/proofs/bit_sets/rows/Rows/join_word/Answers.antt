use Rattle.std.proofs.Common.{List, ℕ, subst}
use Rattle.machine_sets.specs.BitSets.Bundles.{AreRows}
use Rattle.machine_sets.proofs.BitSets.LedLemmas.{GainsLed-unmarked}
use Rattle.machine_sets.proofs.bit_sets.rows.Rows.join_word.Goals as goal

pub returns-else-words-number-ne0-clause-gains : goal.returns-else-words-number-ne0-clause-gains
returns-else-words-number-ne0-clause-gains c =
    let are_rows = subst (λ (rows : List (List ℕ)). AreRows c.self.inside.marked c.self.inside.apart c.self.inside.runs.items c.self.inside.shorts.items rows) c.self.view_is c.self.invariant in
    GainsLed-unmarked c.args.self.now are_rows.short c.self.inside.marked c.args.words.now c.args.number are_rows.marks
    (c.fits-words c.args.number) c.if-words-number-ne0.false
