use Rattle.std.proofs.Common.{◌∙◌, ap, ◌||◌, ◌/◌, true, arith}
use Rattle.std.specs.Prelude.{◌==◌}
use Rattle.machine_sets.specs.BitSets.Bits.{has_place}
use Rattle.machine_sets.proofs.BitSets.PlaceLemmas.{place_gains, alone, alone_bit}
use Rattle.machine_sets.proofs.bit_sets.places.put.Goals as goal

pub returns : goal.returns
returns c place =
    place_gains (λ other. other == c.args.place) c.args.words.now (c.args.place / 64) c.bit_where.result (omega arith)
    (λ j low. c.bit_where.ensures j ∙ alone_bit true c.args.place j low) place
    ∙ ap (λ b. has_place c.args.words.now place || b) (alone true c.args.place place)
