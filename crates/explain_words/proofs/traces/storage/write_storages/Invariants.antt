use Rattle.std.proofs.Common.{◌≡◌, ◌++◌, take}
use Rattle.std.specs.List.{flat_map}
use Rattle.storage_units.specs.Storage.{storage_ended}
use Rattle.explain_words.specs.TracesWords.TracedUnits.{storage_told}
use Rattle.explain_words.proofs.traces.storage.write_storages.Given as goal

-- the storage units so far are told
abbrev pub invariant-loop-storage : goal.invariant-loop-storage
invariant-loop-storage l =
    l.text.items
    ≡ l.initial.text.items ++ flat_map (λ storage. storage_told storage (storage_ended storage l.fn.cycle)) (take l.storage-index l.storages)
