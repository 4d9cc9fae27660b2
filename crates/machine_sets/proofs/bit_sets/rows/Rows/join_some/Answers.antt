use Rattle.std.proofs.Common.{◌∙◌, ◌-◌, sym}
use Rattle.std.proofs.lemmas.Bool.{and_parts, false≢true}
use Rattle.std.specs.Prelude.{nat_le}
use Rattle.machine_sets.specs.BitSets.Bits.{is_bit, is_in_run}
use Rattle.machine_sets.proofs.BitSets.BitLemmas.{none_set}
use Rattle.machine_sets.proofs.BitSets.LedLemmas.{GainsLed-none}
use Rattle.machine_sets.proofs.bit_sets.rows.Rows.join_some.Goals as goal

pub returns-else-bits-ne0 : goal.returns-else-bits-ne0
returns-else-bits-ne0 c =
    GainsLed-none c.args.self.now (is_in_run c.args.first c.args.bits) c.args.words.now
    (λ from to at leads.
    false≢true
    (sym (none_set c.args.bits c.if-bits-ne0.false (from - c.args.first))
    ∙ (and_parts (nat_le c.args.first from) (is_bit c.args.bits (from - c.args.first)) at).1))
