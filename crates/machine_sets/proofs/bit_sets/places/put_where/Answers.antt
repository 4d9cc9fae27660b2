use Rattle.std.proofs.Common.{◌∙◌, ap, ◌&&◌, ◌||◌, ◌/◌, rules}
use Rattle.std.specs.Prelude.{◌==◌}
use Rattle.machine_sets.specs.BitSets.Bits.{has_place}
use Rattle.machine_sets.proofs.BitSets.PlaceLemmas.{place_gains, alone, alone_bit}
use Rattle.machine_sets.proofs.bit_sets.places.put_where.Goals as goal

pub returns : goal.returns
returns c place =
    place_gains (λ other. c.args.test && (other == c.args.place)) c.args.words.now (c.args.place / 64) c.bit_where.result
    (search rules)
    (λ j low. c.bit_where.ensures j ∙ alone_bit c.args.test c.args.place j low) place
    ∙ ap (λ b. has_place c.args.words.now place || b) (alone c.args.test c.args.place place)
