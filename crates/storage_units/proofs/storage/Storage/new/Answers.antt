use Rattle.std.proofs.Common.{◌-◌, false}
use Rattle.storage_units.proofs.ColumnSets.{words-blank}
use Rattle.storage_units.proofs.storage.Storage.new.Goals as goal

pub returns : goal.returns
returns c = λ i.
    record { place = c.args.unit - 34; held = words-blank i; received = words-blank i; reads_in = false; reads_out = false }
