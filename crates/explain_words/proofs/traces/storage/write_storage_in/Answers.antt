use Rattle.std.proofs.Common.{◌≡◌, ◌++◌, subst}
use Rattle.std.specs.Prelude.{OnOk}
use Rattle.storage_units.specs.Storage.{StorageState}
use Rattle.explain_words.specs.TracesWords.TracedUnits.{storage_told}
use Rattle.explain_words.proofs.traces.storage.write_storage_in.Goals as goal

pub returns : goal.returns
returns c =
    subst (λ (b : StorageState). OnOk c.write_storage.result (c.write_storage.new.text.items ≡ c.args.text.now.items ++ storage_told c.args.storage.now b))
    c.behind_end-behind.ensures c.write_storage.ensures
