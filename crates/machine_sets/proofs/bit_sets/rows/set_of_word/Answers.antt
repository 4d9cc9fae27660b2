use Rattle.std.proofs.Common.{◌∙◌, ap, ◌*◌, ◌&&◌, ◌||◌}
use Rattle.std.specs.Prelude.{nat_lt}
use Rattle.machine_sets.specs.BitSets.Bits.{is_in_run}
use Rattle.machine_sets.proofs.BitSets.PlaceLemmas.{has_place-zeros}
use Rattle.machine_sets.proofs.bit_sets.rows.set_of_word.Goals as goal

pub returns : goal.returns
returns c place =
    c.put_run.ensures place
    ∙ ap (λ b. b || (nat_lt place 1984 && is_in_run (64 * c.args.number) c.from.result place)) (has_place-zeros 31 place)
    ∙ ap (λ n. nat_lt place 1984 && is_in_run (64 * c.args.number) n place) c.from.ensures
