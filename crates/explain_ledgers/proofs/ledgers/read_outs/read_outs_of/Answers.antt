use Rattle.std.proofs.Common.{ap, arith, refl, set}
use Rattle.counters.specs.declared.controls.Controls.{Controls}
use Rattle.explain_ledgers.proofs.LedgersWords.CycleReadOuts.{notes-all, notes-more}
use Rattle.explain_ledgers.proofs.ledgers.read_outs.read_outs_of.Goals as goal

pub loop-place-init : goal.loop-place-init
loop-place-init c = record { many = refl; each = λ k d less. absurd (omega (arith, less)) }

pub loop-place-preserved : goal.loop-place-preserved
loop-place-preserved c =
    notes-more c.args.groups.now c.loop-place.place c.loop-place.read_outs _ c.index-groups-place.result c.loop-place-test.true c.requires
    c.index-groups-place.is c.loop-place.invariant
    (ap (λ (k : Controls). set c.loop-place.read_outs c.loop-place.place k.read_out) c.controls.ensures)

pub returns : goal.returns
returns c =
    let end = c.loop-place.auto.place-end in
    let less = c.loop-place-test.false in
    notes-all c.args.groups.now c.loop-place.place c.loop-place.read_outs (omega (arith, end, less)) c.requires c.loop-place.invariant
