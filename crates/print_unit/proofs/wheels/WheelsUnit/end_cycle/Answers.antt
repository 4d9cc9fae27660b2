use Rattle.std.proofs.Common.{◌∙◌, sym, ap, ◌&&◌, ℕ, if◌then◌else◌}
use Rattle.net.specs.HubSets.{is_bit}
use Rattle.print_unit.specs.WheelWords.{hides, received_at}
use Rattle.print_unit.proofs.WheelRows.{state-ended}
use Rattle.print_unit.proofs.wheels.WheelsUnit.end_cycle.Goals as goal

pub returns : goal.returns
returns c =
    let words = c.self.inside in
    let hidden = c.hidden_by-hidden.result in
    rw (sym c.self.view_is)
    (state-ended words c.args.cycle hidden c.hide.new.line c.hide.ensures.wheels
    (λ k below. c.hidden_by-hidden.ensures words.sets c.print.ensures k below
    ∙ ap (λ b. b && hides (received_at words.sets) words.link words.suppress words.symbol k) c.has_zero_control-control.ensures)
    (λ k below. c.hide.ensures.hidden k below
    ∙ ap (λ (character : ℕ). if is_bit hidden k then 32 else character) (c.print.ensures.characters k below)))
