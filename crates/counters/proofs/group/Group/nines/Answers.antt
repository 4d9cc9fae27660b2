use Rattle.std.proofs.Common.{◌∙◌, ap, arith}
use Rattle.std.proofs.lemmas.Bool.Decides.{nat_tests}
use Rattle.counters.specs.Counters.{Counter, wheels_in}
use Rattle.counters.specs.Wheels.{all_nines}
use Rattle.counters.proofs.PackedViews.{all_nines-packed}
use Rattle.counters.proofs.group.Group.nines.Goals as goal

pub returns : goal.returns
returns c =
    let inside = c.self.inside in
    c.all_nines.ensures
    ∙ all_nines-packed inside.controls inside.digits inside.entered inside.name.width (omega arith) (grind (arith, nat_tests, c.self.invariant.width))
    ∙ ap (λ (k : Counter). all_nines (wheels_in k)) c.self.view_is
