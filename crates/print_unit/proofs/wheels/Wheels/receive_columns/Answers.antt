use Rattle.std.proofs.Common.{◌∙◌, ◌||◌, ap, sym, slice_index_or}
use Rattle.card_code.specs.Rows.{passing_place}
use Rattle.net.specs.HubSets.{is_bit}
use Rattle.print_unit.proofs.WheelRows.{state-rows}
use Rattle.print_unit.proofs.wheels.Wheels.receive_columns.Goals as goal

pub returns : goal.returns
returns c cycle pictures brought =
    rw (sym c.self.view_is)
    (state-rows c.self.inside c.receive_runs.new.sets cycle pictures
    (λ k below at.
    c.receive_runs.ensures k below (passing_place at)
    ∙ ap (λ b. is_bit (slice_index_or c.self.inside.sets k 0) (passing_place at) || b) (sym (brought at k below))))
