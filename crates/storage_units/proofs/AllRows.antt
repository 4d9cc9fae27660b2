-- A storage unit with all rows of a cycle at once.
use Rattle.std.proofs.Common.{◌≡◌, ◌∙◌, ap, ℕ, ◌+◌, ◌-◌, ◌*◌, ◌≤◌, Bool, true, false, List, map, take, drop, Some, arith}
use Rattle.std.proofs.lemmas.List.{get_or-take}
use Rattle.card_code.specs.Rows.{passing_place, rows}
use Rattle.card_code.specs.declared.row.Row.{Row as CardRow}
use Rattle.hubs.specs.declared.hub.Hub.TheVariants.{SE}
use Rattle.net.proofs.KindRows.{SE_numbered, numbered_in}
use Rattle.net.proofs.SetLemmas.{set-read}
use Rattle.net.specs.HubSets.{is_bit}
use Rattle.net.specs.HubRows.{has_at}
use Rattle.net.specs.RowSets.{after_rows, pictures_of}
use Rattle.net.specs.declared.cycle.Cycle.{Cycle}
use Rattle.net.specs.declared.cycle.Point.TheVariants.{Row}
use Rattle.storage_units.specs.Fields.{row_words}
use Rattle.storage_units.specs.Storage.{StorageState, columns_in, storage_sensed}
use Rattle.storage_units.specs.Words.{word_of}
use Rattle.storage_units.proofs.StorageLemmas.{within-from}
use Rattle.storage_units.proofs.WordLemmas.{word_of-same}

-- the words of the sets of a unit's entries are those of the pictures
words-read : (sets read new : List ℕ) (unit : ℕ) (row : CardRow) → 1 ≤ unit → unit ≤ 4
    → read ≡ drop (1620 + (unit - 1) * 16 + 1 - 1) sets → new ≡ take 16 read
    → word_of (λ column. has_at new (column - 1) (passing_place row)) 16 ≡ columns_in (pictures_of sets (Row row)) unit
words-read sets read new unit row from to is first =
    word_of-same (λ column. has_at new (column - 1) (passing_place row)) (λ column. pictures_of sets (Row row) (SE unit column)) 16 each
  where
    each : (n : ℕ) → 1 ≤ n → n ≤ 16 → has_at new (n - 1) (passing_place row) ≡ pictures_of sets (Row row) (SE unit n)
    each n low high =
        let index : 1620 + (unit - 1) * 16 + n ≡ 1620 + (unit - 1) * 16 + 1 + (n - 1) = omega (arith, low) in
        ap (λ (l : List ℕ). has_at l (n - 1) (passing_place row)) first
        ∙ ap (λ (w : ℕ). is_bit w (passing_place row)) (get_or-take 16 read (n - 1) 0 (omega (arith, low, high)))
        ∙ ap (λ (l : List ℕ). has_at l (n - 1) (passing_place row)) is
        ∙ set-read sets (SE unit n) (1620 + (unit - 1) * 16 + 1) (n - 1) (passing_place row) (omega arith)
        (SE_numbered unit (within-from unit 4 from to) n ∙ numbered_in (1620 + (unit - 1) * 16) 16 n low high ∙ ap Some index)

-- a unit that reads in receives what the pictures of the rows give, whatever it had received
pub rows-received : (cycle : Cycle) (storage : StorageState) (sets read old new : List ℕ) → storage.reads_in ≡ true
    → 1 ≤ storage.place → storage.place ≤ 4
    → read ≡ drop (1620 + (storage.place - 1) * 16 + 1 - 1) sets → new ≡ take 16 read
    → ◌≡◌ {A = StorageState} (record storage { received = row_words new })
    (after_rows storage_sensed cycle (pictures_of sets) (record storage { received = row_words old }))
rows-received cycle storage sets read old new on from to is first = by storage.reads_in on
  where
    by : (reads_in : Bool) → reads_in ≡ true
        → ◌≡◌ {A = StorageState} (record storage { received = row_words new; reads_in = reads_in })
        (after_rows storage_sensed cycle (pictures_of sets) (record storage { received = row_words old; reads_in = reads_in }))
    by true is_on = λ i.
        record storage { received = map (λ row. words-read sets read new storage.place row from to is first i) rows; reads_in = true }
    by false is_on = cc
