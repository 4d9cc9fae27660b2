-- What contracts see of the fields of a storage unit.
use Rattle.std.specs.Prelude.{ℕ, ◌-◌, List, map}
use Rattle.card_code.specs.Rows.{passing_place, rows}
use Rattle.net.specs.HubRows.{has_at}
use Rattle.storage_units.specs.Storage.{StorageState}
use Rattle.storage_units.specs.Words.{word_of}
use Rattle.storage_units.specs.declared.storage.Storage.TheInside as storage

-- for each row, in the order of the points, those of sixteen columns whose sets have it
abbrev pub row_words : List ℕ → List ℕ
row_words sets = map (λ row. word_of (λ column. has_at sets (column - 1) (passing_place row)) 16) rows

-- a storage unit by its fields
abbrev pub state_of : storage.Inside → StorageState
state_of s = record { place = s.place; held = row_words s.held; received = row_words s.received; reads_in = s.reads_in; reads_out = s.reads_out }
