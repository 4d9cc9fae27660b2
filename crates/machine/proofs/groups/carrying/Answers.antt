use Rattle.std.proofs.Common.{◌∙◌, false, ◌&&◌, ◌||◌, ap, sym, refl, arith, get_or}
use Rattle.std.proofs.Math.Bool.{or-false}
use Rattle.counters.specs.Counters.{wheels_in}
use Rattle.counters.specs.Wheels.{carries_out}
use Rattle.net.proofs.Below.machine_sets.BitSets.BitLemmas.{is_bit-or, is_bit-zero}
use Rattle.net.specs.HubSets.{is_bit}
use Rattle.machine.specs.Steady.{carries_of}
use Rattle.machine.proofs.CarryExits.{busy-carries, carry-more, carry-past}
use Rattle.machine.proofs.Rest.{told-at, told-past}
use Rattle.machine.proofs.groups.carrying.Goals as goal

pub loop-place-init : goal.loop-place-init
loop-place-init c k =
    ap (λ b. b || (is_bit c.args.busy.controlled k && get_or (carries_of c.args.groups.now) k false)) (is_bit-zero k)
    ∙ busy-carries c.args.busy c.args.groups.now k c.requires

pub loop-place-preserved-then-place-lt-GROUPS : goal.loop-place-preserved-then-place-lt-GROUPS
loop-place-preserved-then-place-lt-GROUPS c k =
    let groups = c.args.groups.now in
    carry-more c.loop-place.left _ c.loop-place.bits _ c.in-Some.place k (carries_of groups) c.carries_out.result _
    c.in-Some.ensures.taken.others c.in-Some.ensures.taken.there
    (told-at (λ g. carries_out (wheels_in g) false) groups c.in-Some.place _ c.index-groups-place.result
    (omega (arith, c.if-place-lt-GROUPS.true, c.type_inv.groups)) refl
    ∙ sym c.carries_out.ensures)
    (is_bit-or c.loop-place.bits c.bit_where-bits.result k ∙ ap (λ b. is_bit c.loop-place.bits k || b) (c.bit_where-bits.ensures k))
    (c.loop-place.invariant k)

pub loop-place-preserved : goal.loop-place-preserved
loop-place-preserved c k =
    carry-past c.loop-place.left _ c.loop-place.bits c.in-Some.place k (carries_of c.args.groups.now) _
    c.in-Some.ensures.taken.others
    (told-past (λ g. carries_out (wheels_in g) false) c.args.groups.now c.in-Some.place
    (omega (arith, c.if-place-lt-GROUPS.false, c.type_inv.groups)))
    (c.loop-place.invariant k)

pub returns : goal.returns
returns c k =
    sym
    (ap (λ n. is_bit c.loop-place.bits k || (is_bit n k && get_or (carries_of c.args.groups.now) k false)) (c.take_lowest.ensures.none c.in_default.is)
    ∙ ap (λ b. is_bit c.loop-place.bits k || (b && get_or (carries_of c.args.groups.now) k false)) (is_bit-zero k)
    ∙ or-false (is_bit c.loop-place.bits k))
    ∙ c.loop-place.invariant k
