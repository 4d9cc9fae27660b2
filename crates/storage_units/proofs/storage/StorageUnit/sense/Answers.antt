use Rattle.std.proofs.Common.{◌∙◌, ◌==◌, ap, sym, slice_set, if◌then◌else◌}
use Rattle.card_code.specs.Rows.{passing_place}
use Rattle.hubs.specs.declared.hub.Hub.TheVariants.{SE}
use Rattle.net.specs.HubSets.{has_hub, is_bit}
use Rattle.net.specs.HubRows.{has_at}
use Rattle.storage_units.specs.Fields.{row_words, state_of}
use Rattle.storage_units.specs.Storage.{columns_in}
use Rattle.storage_units.proofs.ColumnSets.{words-put}
use Rattle.storage_units.proofs.StorageLemmas.{columns_read}
use Rattle.storage_units.proofs.storage.StorageUnit.sense.Goals as goal

pub returns-in-C : goal.returns-in-C
returns-in-C c = rw c.in-C.is (c.sense_controls.ensures c.args._cycle (has_hub c.args.picture.now) c.row.ensures.hubs)

pub returns-in-Row : goal.returns-in-Row
returns-in-Row c =
    let s = c.self.inside in
    let columns = c.low_word-columns.result in
    let put =
    words-put s.received c.put_row.new.sets c.in-Row.row columns (λ n. has_hub c.args.picture.now (SE s.place n))
    (λ k other low small.
    c.put_row.ensures k other low small
    ∙ ap (λ place. if other == place then is_bit columns k else has_at s.received k other) c.place.ensures.value)
    (columns_read s.place c.row-in-Row.result columns c.args.picture.now c.self.invariant.0 c.self.invariant.1 c.row-in-Row.ensures.hubs
    c.low_word-columns.ensures) in
    rw (c.in-Row.is, ← c.self.view_is)
    ((λ i. record (state_of s) { received = put i })
    ∙ ap (λ b. record (state_of s) {
      received =
          if b
          then slice_set (row_words s.received) (passing_place c.in-Row.row) (columns_in (has_hub c.args.picture.now) s.place)
          else row_words s.received;
    }) (sym c.if-self.true))
