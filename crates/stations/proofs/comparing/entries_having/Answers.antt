use Rattle.std.proofs.Common.{◌≡◌, ◌∙◌, ◌+◌, ◌&&◌, ap, arith, nat_lt, slice_index_or, ℕ}
use Rattle.net.proofs.Below.machine_sets.BitSets.MaskLemmas.{rows-masked}
use Rattle.net.specs.HubSets.{is_bit}
use Rattle.stations.proofs.CollectedWords.{thirty-read}
use Rattle.stations.proofs.comparing.entries_having.Goals as goal

pub returns : goal.returns
returns c k =
    let low = c.requires in
    let long = c.told-sets in
    let sets = c.args.sets.now in
    let from : 0 + k ≡ k = omega arith in
    thirty-read sets _ c.args.place k long
    (rows-masked 32 sets 0 c.args.place k (omega arith) (omega (arith, long)) (omega (arith, low))
    ∙ ap (λ (j : ℕ). nat_lt k 32 && is_bit (slice_index_or sets j 0) c.args.place) from)
