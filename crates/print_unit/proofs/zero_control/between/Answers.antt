use Rattle.std.proofs.Common.{◌∙◌, ap, ℕ, slice_index_or}
use Rattle.net.specs.HubSets.{is_bit}
use Rattle.print_unit.specs.WheelWords.{is_between}
use Rattle.print_unit.proofs.Lanes.{wheels-masked}
use Rattle.print_unit.proofs.zero_control.between.Goals as goal

pub returns : goal.returns
returns c k below =
    wheels-masked c.from-left.result c.from-right.result k (λ j. is_between c.args.first c.args.last (slice_index_or c.args.line.now j 0)) below
    (λ j. ap (λ (w : ℕ). is_bit w j) c.from-left.ensures ∙ c.of_sixty_four.ensures j)
    (λ j. ap (λ (w : ℕ). is_bit w j) c.from-right.ensures ∙ c.of_sixty_four-2.ensures j)
