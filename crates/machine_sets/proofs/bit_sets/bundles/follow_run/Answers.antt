use Rattle.std.proofs.Common.{◌∙◌, ap, ◌&&◌, ◌||◌}
use Rattle.std.specs.Prelude.{nat_lt}
use Rattle.machine_sets.specs.BitSets.Bits.{has_place}
use Rattle.machine_sets.proofs.BitSets.BundleLemmas.{run_follows, run_follows_none}
use Rattle.machine_sets.proofs.bit_sets.bundles.follow_run.Goals as goal

pub returns-then-bits-ne0 : goal.returns-then-bits-ne0
returns-then-bits-ne0 c place =
    c.put_run.ensures place
    ∙ ap (λ b. has_place c.args.words.now place || (nat_lt place 1984 && b))
    (run_follows c.args.wires c.args.new.now c.run.result c.first_bits.result place c.requires c.run.ensures
    c.first_bits.ensures)

pub returns-else-bits-ne0 : goal.returns-else-bits-ne0
returns-else-bits-ne0 c place =
    run_follows_none c.args.wires c.args.new.now c.run.result c.first_bits.result place _ c.requires c.run.ensures
    c.first_bits.ensures c.if-bits-ne0.false
