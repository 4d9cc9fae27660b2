use Rattle.std.proofs.Common.{◌∙◌, ap, sym}
use Rattle.hubs.specs.declared.hub.Group.{Group}
use Rattle.counters.specs.Counters.{controls_of}
use Rattle.counters.specs.Fields.{counter_in}
use Rattle.counters.proofs.group.Group.sense_controls.Goals as goal

pub returns : goal.returns
returns c cycle picture row =
    let is =
    c.controls_in-self-inside.ensures picture row ∙ ap (λ (name : Group). controls_of name picture) (sym c.self.invariant.unit) in
    rw (← c.self.view_is) (λ i. record (counter_in c.self.inside) { controls = is i })
