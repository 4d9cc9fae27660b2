use Rattle.std.proofs.Common.{◌∙◌, List, Bool, ap, sym}
use Rattle.selectors.specs.Fields.{pilots_of}
use Rattle.selectors.specs.PilotWords.{pilots_in}
use Rattle.selectors.proofs.PickupLemmas.{no-bits}
use Rattle.selectors.proofs.RowPickups.{ended-moving}
use Rattle.selectors.proofs.pilots.PilotsUnit.end_cycle.Goals as goal

pub returns-then-moves_pilots : goal.returns-then-moves_pilots
returns-then-moves_pilots c =
    rw (sym c.self.view_is)
    ((λ i. record {
      transferred = pilots_in (c.replace-self-inside.ensures.value i);
      picked_up = pilots_in (c.replace-self-inside.ensures.after i);
    })
    ∙ ap (λ (ps : List Bool). record { transferred = pilots_in c.self.inside.picked_up; picked_up = ps }) no-bits
    ∙ ended-moving (pilots_of c.self.inside) c.args.cycle (sym c.moves_pilots.ensures ∙ c.if-moves_pilots.true))
