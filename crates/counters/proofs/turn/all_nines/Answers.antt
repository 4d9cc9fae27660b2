use Rattle.std.proofs.Common.{◌∙◌, arith}
use Rattle.counters.specs.Counters.{wheels_of}
use Rattle.counters.proofs.Cycles.{length-wheels_of, wheels_of-IsWheel}
use Rattle.counters.proofs.Packed.{nines-shifted}
use Rattle.counters.proofs.turn.all_nines.Goals as goal

pub returns : goal.returns
returns c =
    nines-shifted (wheels_of c.args.controls c.args.digits c.args.entered) c.advanced.result c.args.width
    (length-wheels_of c.args.controls c.args.digits c.args.entered (omega arith) ∙ omega arith) c.requires.to
    (wheels_of-IsWheel c.args.controls c.args.digits c.args.entered c.requires.digits c.requires.entered) c.advanced.ensures.sum
