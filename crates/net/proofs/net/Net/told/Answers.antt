use Rattle.std.proofs.Common.{◌+◌, ◌∙◌, subst, sym}
use Rattle.machine_sets.specs.BitSets.Bits.{has_place}
use Rattle.net.specs.HubSets.{has_hub}
use Rattle.net.specs.Nets.{IsNetOf, NetRows}
use Rattle.net.specs.Orders.{AreOrdersOf, AreToldBy}
use Rattle.net.specs.Tellings.{AreLast, IsTelling, is_led_at, is_told}
use Rattle.net.proofs.DirectWires.{wires-lead}
use Rattle.net.proofs.ToldPictures.{found-both, kind-told, none-told}
use Rattle.net.proofs.net.Net.told.Goals as goal

pub returns-in-Some : goal.returns-in-Some
returns-in-Some c wiring is_net =
    let rows = c.self.inside.rows in
    let kind = c.in-Some.kind in
    let telling = c.index-telling.result.now in
    let words = c.words.result.now in
    let branches = c.as_slice.result.now in
    let is_inside = subst (λ (net : NetRows). IsNetOf wiring net) (sym c.self.view_is) is_net in
    let is = subst (IsTelling rows (1024 + kind)) (sym c.index-telling.ensures) (c.self.invariant.told.each kind telling c.in-Some.ensures.few) in
    found-both (AreOrdersOf (is_told (is_led_at rows (1024 + kind)) (is_led_at rows) (has_place words) branches))
    (λ orders. AreLast (has_place words) branches) (AreToldBy wiring c.args.cycle (has_hub c.args.closed.now)) c.told_through.result
    (c.told_through.ensures.told (is_led_at rows (1024 + kind)) (is_led_at rows) is.base
    (rw c.as_slice.ensures.value (λ k d low. (is.branches.each k d low).orders)))
    c.told_through.ensures.last
    (λ orders are last.
    kind-told wiring (record { rows = rows }) c.args.cycle kind c.args.closed.now telling orders words branches is_inside
    (wires-lead wiring (record { rows = rows }) c.self.invariant.links is_inside c.self.invariant.lead.range c.self.invariant.lead.agree)
    (sym c.kind_of.ensures.kind ∙ c.in-Some.is) c.in-Some.ensures.few is c.words.ensures.words c.as_slice.ensures.value are last)

pub returns-in-None : goal.returns-in-None
returns-in-None c wiring is_net =
    none-told wiring c.args.cycle (has_hub c.args.closed.now) c.none.result (sym c.kind_of.ensures.kind ∙ c.in-None.is) c.none.ensures
