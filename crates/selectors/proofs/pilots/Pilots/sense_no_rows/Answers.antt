use Rattle.std.proofs.Common.{◌∙◌, List, Bool, ap, sym}
use Rattle.card_code.specs.declared.row.Row.TheVariants.{Eleven}
use Rattle.net.specs.declared.cycle.Point.TheVariants.{Row}
use Rattle.selectors.specs.Fields.{pilots_of}
use Rattle.selectors.specs.PilotWords.{pilots_in}
use Rattle.selectors.proofs.PickupLemmas.{no-bits, no-pickups}
use Rattle.selectors.proofs.RowPickups.{rows-moving, rows-resting}
use Rattle.selectors.proofs.pilots.Pilots.sense_no_rows.Goals as goal

pub returns-then-moves_pilots : goal.returns-then-moves_pilots
returns-then-moves_pilots c pictures none =
    rw (sym c.self.view_is)
    (ap (λ (ps : List Bool). record { transferred = pilots_in c.self.inside.transferred; picked_up = ps })
    (no-bits ∙ sym (no-pickups (pictures (Row Eleven)) none))
    ∙ rows-moving c.args.cycle pictures (pilots_of c.self.inside) (sym c.moves_pilots.ensures ∙ c.if-moves_pilots.true))

pub returns-else-moves_pilots : goal.returns-else-moves_pilots
returns-else-moves_pilots c pictures none =
    rows-resting c.args.cycle pictures c.args.self.now (sym c.moves_pilots.ensures ∙ c.if-moves_pilots.false)
