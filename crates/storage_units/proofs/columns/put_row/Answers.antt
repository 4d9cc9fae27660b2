use Rattle.std.proofs.Common.{◌∙◌, ◌==◌, ap, refl, arith, if◌then◌else◌}
use Rattle.net.specs.HubRows.{has_at}
use Rattle.storage_units.proofs.ColumnSets.{IsPut-more}
use Rattle.storage_units.proofs.columns.put_row.Goals as goal

pub loop-k-init : goal.loop-k-init
loop-k-init c = record { put = λ k other below low. absurd (omega (arith, below)); others = λ k other above. refl; long = c.told-sets }

pub loop-k-preserved : goal.loop-k-preserved
loop-k-preserved c =
    IsPut-more c.loop-k.k c.args.place c.args.columns c.put_in_set.result c.args.sets.now c.loop-k.sets c.loop-k-test.true
    (λ other low.
    c.put_in_set.ensures other low
    ∙ ap (λ b. if other == c.args.place then b else has_at c.loop-k.sets c.loop-k.k other) c.has_bit.ensures)
    c.loop-k.invariant

pub returns : goal.returns
returns c k other low small = c.loop-k.invariant.put k other (omega (arith, low, c.loop-k-test.false)) small
