use Rattle.std.proofs.Common.{◌∙◌, ℕ, sym, subst, ◌+◌}
use Rattle.hubs.specs.declared.hub.Hub.TheVariants.{W}
use Rattle.net.specs.HubSets.{has_hub}
use Rattle.print_unit.specs.RowSets.{TakesRow}
use Rattle.print_unit.proofs.WheelRows.{state-sensed, is_in_row-W, is_in_reach-W}
use Rattle.print_unit.proofs.wheels.WheelsUnit.sense.Goals as goal

pub returns-in-Row : goal.returns-in-Row
returns-in-Row c =
    let words = c.self.inside in
    let word = c.row.result in
    let value = c.place.ensures.value in
    rw (c.in-Row.is, sym c.self.view_is)
    (state-sensed words c.take_row.new.sets c.args._cycle c.in-Row.row (has_hub c.args.picture.now) word (rw (sym value) c.place.ensures.range)
    (λ k below. sym (c.row.ensures.hubs (W (k + 1)) (is_in_reach-W k below)) ∙ is_in_row-W word k below)
    (subst (λ (place : ℕ). TakesRow word place words.sets c.take_row.new.sets) value c.take_row.ensures.row))
