use Rattle.std.proofs.Common.{◌∙◌, List, Bool, ap, refl, sym, arith}
use Rattle.net.specs.RowSets.{pictures_of}
use Rattle.selectors.specs.Fields.{pilots_of}
use Rattle.selectors.specs.PilotWords.{pilots_in}
use Rattle.selectors.proofs.RowPickups.{pickups-read, rows-moving, rows-resting}
use Rattle.selectors.proofs.pilots.Pilots.sense_rows.Goals as goal

pub pickups_in-self-inside-requires : goal.pickups_in-self-inside-requires
pickups_in-self-inside-requires c = let long = c.from.ensures.long 1605 refl in omega (arith, long)

pub returns-then-moves_pilots : goal.returns-then-moves_pilots
returns-then-moves_pilots c =
    let pickups = c.pickups_in-self-inside.ensures ∙ pickups-read c.args.pictures.now c.from.result.now (c.from.ensures.sets 1605 refl) in
    rw (sym c.self.view_is)
    (ap (λ (ps : List Bool). record { transferred = pilots_in c.self.inside.transferred; picked_up = ps }) pickups
    ∙ rows-moving c.args.cycle (pictures_of c.args.pictures.now) (pilots_of c.self.inside)
    (sym c.moves_pilots.ensures ∙ c.if-moves_pilots.true))

pub returns-else-moves_pilots : goal.returns-else-moves_pilots
returns-else-moves_pilots c =
    rows-resting c.args.cycle (pictures_of c.args.pictures.now) c.args.self.now (sym c.moves_pilots.ensures ∙ c.if-moves_pilots.false)
