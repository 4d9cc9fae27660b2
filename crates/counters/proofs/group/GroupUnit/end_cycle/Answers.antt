use Rattle.std.proofs.Common.{◌∙◌, ◌≤◌, ap, arith, reverse, replicate, take, if◌then◌else◌, List, ℕ}
use Rattle.std.proofs.lemmas.Bool.Decides.{nat_tests}
use Rattle.counters.specs.Counters.{Counter, counter_ended}
use Rattle.counters.specs.Fields.{counter_in}
use Rattle.counters.proofs.PackedViews.{top-packed, turned-packed, zeros-packed}
use Rattle.counters.proofs.Starts.{counter_ended-parts}
use Rattle.counters.proofs.group.GroupUnit.end_cycle.Goals as goal

pub returns : goal.returns
returns c =
    let inside = c.self.inside in
    let width = inside.name.width in
    let new = c.turned-self-inside.result in
    let near : width ≤ 8 = grind (arith, nat_tests, c.self.invariant.width) in
    let some : 1 ≤ width = grind (arith, nat_tests, c.self.invariant.width) in
    counter_ended-parts (counter_in inside) c.args._cycle (reverse (take width new)) (reverse (take width (replicate 8 0)))
    c.none-self-inside.result c.latch_after-self-inside.result
    (ap (λ (ds : List ℕ). reverse (take width ds)) c.turned-self-inside.ensures.turned
    ∙ turned-packed inside.controls inside.digits inside.entered width inside.carry (omega arith) (omega (arith, near)))
    (zeros-packed width near) c.none-self-inside.ensures
    (c.latch_after-self-inside.ensures ∙ ap (λ b. if inside.controls.test then b else inside.latch) (top-packed new width some (omega (arith, near))))
    ∙ ap (λ (k : Counter). counter_ended k c.args._cycle) c.self.view_is
