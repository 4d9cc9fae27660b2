use Rattle.std.proofs.Common.{◌∙◌, ◌+◌, ◌/◌, ◌&&◌, nat_lt}
use Rattle.machine_sets.proofs.BitSets.BitLemmas.{is_bit-and}
use Rattle.machine_sets.specs.BitSets.Bits.{has_place}
use Rattle.machine_sets.proofs.SpreadsWords.ContactRuns.{places-read, turned-and}
use Rattle.machine_sets.proofs.spreads.contact_runs.closed_exits.Goals as goal

pub returns : goal.returns
returns c k low =
    let read = places-read c.args.closed.now c.args.run.exits c.two_words.result k low (c.fits-closed (c.args.run.exits / 64)) c.two_words.ensures in
    is_bit-and _ c.first_bits.result k
    ∙ (λ i. read i && c.first_bits.ensures.bits k low i)
    ∙ turned-and (has_place c.args.closed.now (c.args.run.exits + k)) (nat_lt k c.args.run.count)
