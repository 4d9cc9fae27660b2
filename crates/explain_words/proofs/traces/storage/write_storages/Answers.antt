use Rattle.std.proofs.Common.{◌∙◌, ◌++◌, ap, sym, List, arith}
use Rattle.std.proofs.lemmas.List.{take_all}
use Rattle.std.specs.List.{flat_map}
use Rattle.storage_units.specs.Storage.{StorageState}
use Rattle.storage_units.specs.Storage.{storage_ended}
use Rattle.explain_words.specs.TracesWords.TracedUnits.{storage_told}
use Rattle.explain_words.proofs.TracesWords.Pieces.{piece_more}
use Rattle.explain_words.proofs.traces.storage.write_storages.Goals as goal

pub loop-storage-preserved : goal.loop-storage-preserved
loop-storage-preserved c =
    piece_more (λ storage. storage_told storage (storage_ended storage c.args.cycle)) c.args.text.now.items c.loop-storage.text.items
    c.write_storage_in.new.text.items c.args.storages.now c.loop-storage.storage-index c.storage-item.result c.loop-storage-test.true
    (sym c.storage-item.is) c.loop-storage.invariant c.in_ok-write_storage_in.ensures

pub returns : goal.returns
returns c =
    c.loop-storage.invariant
    ∙ ap (λ (l : List StorageState). c.args.text.now.items ++ flat_map (λ storage. storage_told storage (storage_ended storage c.args.cycle)) l)
    (take_all c.loop-storage.storage-index c.args.storages.now (omega (arith, c.loop-storage-test.false)))
