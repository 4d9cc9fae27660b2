use Rattle.std.proofs.Common.{◌∙◌, ◌||◌, ap, sym, ℕ, Bool}
use Rattle.std.proofs.Math.Bool.{or-false}
use Rattle.hubs.specs.declared.hub.Hub.TheVariants.{CX}
use Rattle.net.specs.HubSets.{has_hub, is_in_row}
use Rattle.stations.proofs.RowHubs.{difference_row, no_difference}
use Rattle.stations.proofs.comparing.ComparingUnit.emit.Goals as goal

pub returns-then-differing-ne0 : goal.returns-then-differing-ne0
returns-then-differing-ne0 c hub =
    rw (c.in-Card-K.is-0, c.in-Card-K.is-1)
    (c.insert_row.ensures hub
    ∙ ap (λ (test : Bool). has_hub c.args.exits.now hub || test)
    (ap (λ (row : ℕ). is_in_row (CX 1) row hub) c.from.ensures
    ∙ difference_row c.args.self.now c.differences-differing.result hub c.differences-differing.ensures))

pub returns-else-differing-ne0 : goal.returns-else-differing-ne0
returns-else-differing-ne0 c hub =
    rw (c.in-Card-K.is-0, c.in-Card-K.is-1)
    (sym (or-false (has_hub c.args.exits.now hub))
    ∙ ap (λ (test : Bool). has_hub c.args.exits.now hub || test)
    (no_difference c.args.self.now c.differences-differing.result hub c.if-differing-ne0.false c.differences-differing.ensures))
