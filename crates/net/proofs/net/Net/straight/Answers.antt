use Rattle.std.proofs.Common.{◌≡◌, All, List, Option, Vec, Global, IfSome, false, subst, sym}
use Rattle.machine_sets.specs.BitSets.Bits.{has_place}
use Rattle.machine_sets.specs.BitSets.Rows.{leads}
use Rattle.net.specs.Nets.{IsNetOf, NetRows}
use Rattle.net.specs.Straight.{AreRunsOf}
use Rattle.net.specs.declared.straight.Straight.{Straight}
use Rattle.machine_sets.specs.declared.spreads.links.Link.{Link}
use Rattle.net.proofs.DirectWires.{direct-wires}
use Rattle.net.proofs.StraightRows.{straight-wires}
use Rattle.net.proofs.net.Net.straight.Goals as goal

-- the runs that the net keeps
runs-kept : (c : goal.After-as_slice) → AreRunsOf (leads c.self.inside.rows) c.as_slice.result.now
runs-kept c =
    subst (λ (runs : List Straight). AreRunsOf (leads c.self.inside.rows) runs) (sym c.as_slice.ensures.value)
    (subst (λ (found : Option (Vec Straight Global)). IfSome found (λ runs. AreRunsOf (leads c.self.inside.rows) runs.items)) c.in-Some.is c.self.invariant.straight)

pub returns-in-Some-clause-inside : goal.returns-in-Some-clause-inside
returns-in-Some-clause-inside c = (runs-kept c).inside

pub returns-in-Some-clause-straight : goal.returns-in-Some-clause-straight
returns-in-Some-clause-straight c wiring is_net =
    straight-wires wiring (record { rows = c.self.inside.rows }) c.self.invariant.links
    (subst (λ (net : NetRows). IsNetOf wiring net) (sym c.self.view_is) is_net) c.self.invariant.lead.range c.self.invariant.lead.agree
    c.as_slice.result.now (runs-kept c)

pub returns-in-Some-clause-direct : goal.returns-in-Some-clause-direct
returns-in-Some-clause-direct c wiring is_net =
    direct-wires wiring (record { rows = c.self.inside.rows }) c.self.inside.commons c.self.invariant.links
    (subst (λ (net : NetRows). IsNetOf wiring net) (sym c.self.view_is) is_net) c.self.invariant.lead.range c.self.invariant.lead.agree
    c.self.invariant.commons
    (subst (λ (found : Option (Vec Straight Global)). IfSome found (λ runs. All (λ (link : Link). has_place c.self.inside.commons link.to ≡ false) c.self.invariant.links))
    c.in-Some.is c.self.invariant.direct)
