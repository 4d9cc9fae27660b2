use Rattle.std.proofs.Common.{◌∙◌, ◌||◌, ap, refl, sym}
use Rattle.std.proofs.Math.Bool.{or-false}
use Rattle.card_code.specs.Rows.{passing_place}
use Rattle.net.specs.HubRows.{has_row_at}
use Rattle.net.specs.declared.cycle.Point.TheVariants.{Row}
use Rattle.storage_units.specs.Fields.{state_of}
use Rattle.storage_units.proofs.StorageLemmas.{is_silent, sets_read_out}
use Rattle.storage_units.proofs.storage.Storage.emit_rows.Goals as goal

pub returns-then-self : goal.returns-then-self
returns-then-self c row hub =
    rw (sym c.self.view_is)
    (c.insert_sets_at.ensures (passing_place row) hub
    ∙ ap (λ b. has_row_at c.args.sets.now (passing_place row) hub || b)
    (sets_read_out (state_of c.self.inside) c.args._cycle row c.self.inside.held hub c.if-self.true c.self.invariant.0 c.self.invariant.1 refl c.self.told.0))

pub returns-else-self : goal.returns-else-self
returns-else-self c row hub =
    rw (sym c.self.view_is)
    (sym (or-false _)
    ∙ ap (λ b. has_row_at c.args.sets.now (passing_place row) hub || b)
    (is_silent (state_of c.self.inside) c.args._cycle (Row row) hub c.if-self.false))
