use Rattle.std.proofs.Common.{◌∙◌, ◌||◌, ap, refl, sym}
use Rattle.std.proofs.Math.Bool.{or-false}
use Rattle.net.specs.HubSets.{has_hub, is_bit}
use Rattle.net.specs.HubRows.{has_at}
use Rattle.storage_units.specs.Fields.{state_of}
use Rattle.storage_units.specs.Storage.{storage_emits}
use Rattle.storage_units.proofs.StorageLemmas.{is_silent, row_read_out}
use Rattle.storage_units.proofs.storage.StorageUnit.emit.Goals as goal

pub returns-in-Row : goal.returns-in-Row
returns-in-Row c hub = c.insert_row.ensures hub
    ∙ ap (λ gained. has_hub c.args.exits.now hub || gained)
    (row_read_out (state_of c.self.inside) c.args._cycle c.args.point c.in-Row.row c.self.inside.held c.from.result hub c.in-Row.is
    c.if-self.true c.self.invariant.0 c.self.invariant.1 refl c.self.told.0
    (λ k.
    ap (λ word. is_bit word k) c.from.ensures ∙ c.having_row-columns.ensures k
    ∙ ap (λ place. has_at c.self.inside.held k place) c.place.ensures.value)
    ∙ ap (λ unit. storage_emits unit c.args._cycle c.args.point hub) c.self.view_is)

pub returns-else-self : goal.returns-else-self
returns-else-self c hub = sym (or-false _)
    ∙ ap (λ gained. has_hub c.args.exits.now hub || gained)
    (is_silent c.args.self.now c.args._cycle c.args.point hub (ap (λ s. s.reads_out) (sym c.self.view_is) ∙ c.if-self.false))
