use Rattle.std.proofs.Common.{◌∙◌, bit_or, ◌*◌, ◌%◌, ◌^◌}
use Rattle.machine_sets.specs.BitSets.Bits.{is_bit}
use Rattle.machine_sets.proofs.SpreadsWords.ContactRuns.{words-joined}
use Rattle.machine_sets.proofs.spreads.contact_runs.two_words.Goals as goal

pub returns : goal.returns
returns c k within =
    (λ i. is_bit (bit_or (c.from.ensures i) (c.from-2.ensures i * 2 ^ 64 % 2 ^ 128)) k)
    ∙ words-joined c.args.low c.args.high k within
