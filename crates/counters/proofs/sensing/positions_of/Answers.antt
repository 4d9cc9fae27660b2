use Rattle.std.proofs.Common.{get_or, refl}
use Rattle.std.specs.Prelude.{◌==◌}
use Rattle.counters.proofs.ShownRows.{no_bits, one_bit_more}
use Rattle.counters.proofs.sensing.positions_of.Goals as goal

pub loop-k-init : goal.loop-k-init
loop-k-init c bit = no_bits c.args.given c.args.digits.now bit

pub loop-k-preserved : goal.loop-k-preserved
loop-k-preserved c bit =
    let digits = c.args.digits.now in
    one_bit_more c.args.given digits c.loop-k.k bit c.loop-k.bits c.bit_where-bits.result
    (get_or digits c.loop-k.k 0 == c.args.given) refl (c.loop-k.invariant bit)
    (c.bit_where-bits.ensures bit)
