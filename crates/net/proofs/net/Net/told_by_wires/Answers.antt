use Rattle.std.proofs.Common.{◌+◌, ◌∙◌, subst, sym}
use Rattle.net.specs.Nets.{IsNetOf, NetRows}
use Rattle.net.specs.Orders.{AreToldBy}
use Rattle.net.specs.Tellings.{IsTelling}
use Rattle.net.proofs.DirectWires.{wires-lead}
use Rattle.net.proofs.ToldPictures.{found-if, kind-told-by-wires, none-of, none-told}
use Rattle.net.proofs.net.Net.told_by_wires.Goals as goal

pub returns-in-Some : goal.returns-in-Some
returns-in-Some c wiring is_net closed =
    let rows = c.self.inside.rows in
    let kind = c.in-Some.kind in
    let telling = c.index-telling.result.now in
    let is_inside = subst (λ (net : NetRows). IsNetOf wiring net) (sym c.self.view_is) is_net in
    let is = subst (IsTelling rows (1024 + kind)) (sym c.index-telling.ensures) (c.self.invariant.told.each kind telling c.in-Some.ensures.few) in
    rw c.then_some.ensures
    (found-if (AreToldBy wiring c.args.cycle closed) c.is_empty.result telling.base
    (λ empty.
    kind-told-by-wires wiring (record { rows = rows }) c.args.cycle kind closed telling is_inside
    (wires-lead wiring (record { rows = rows }) c.self.invariant.links is_inside c.self.invariant.lead.range c.self.invariant.lead.agree)
    (sym c.kind_of.ensures.kind ∙ c.in-Some.is) c.in-Some.ensures.few is (sym c.as_slice-branches.ensures.value ∙ none-of c.as_slice-branches.result.now (sym c.is_empty.ensures ∙ empty))))

pub returns-in-None : goal.returns-in-None
returns-in-None c wiring is_net closed =
    none-told wiring c.args.cycle closed c.none.result (sym c.kind_of.ensures.kind ∙ c.in-None.is) c.none.ensures
