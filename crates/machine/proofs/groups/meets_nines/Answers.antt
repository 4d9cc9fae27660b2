use Rattle.std.proofs.Common.{◌∙◌, refl, sym, arith}
use Rattle.counters.specs.Counters.{wheels_in}
use Rattle.counters.specs.Wheels.{all_nines}
use Rattle.machine.proofs.groups.meets_nines.Goals.{else-place-lt-GROUPS-via-then-place-lt-GROUPS+else-nines, else-place-lt-GROUPS-via-else-place-lt-GROUPS}
use Rattle.machine.specs.Steady.{nines_of}
use Rattle.machine.proofs.Rest.{apart-end, apart-start, apart-taken, told-at, told-past}
use Rattle.machine.proofs.groups.meets_nines.Goals as goal

pub loop-place-init : goal.loop-place-init
loop-place-init c = apart-start c.args.bits (nines_of c.args.groups.now)

pub loop-place-preserved : goal.loop-place-preserved
loop-place-preserved c =
    let groups = c.args.groups.now in
    apart-taken c.loop-place.left _ c.args.bits _ (nines_of groups) c.in-Some.ensures.taken.others
    c.loop-place.invariant
    (elim c.else-place-lt-GROUPS.branch [
      | else-place-lt-GROUPS-via-then-place-lt-GROUPS+else-nines w ↦
          told-at (λ g. all_nines (wheels_in g)) groups c.in-Some.place _ w.index-groups-place.result
          (omega (arith, w.if-place-lt-GROUPS.true, c.type_inv.groups)) refl
          ∙ sym w.nines.ensures ∙ w.if-nines.false
      | else-place-lt-GROUPS-via-else-place-lt-GROUPS w ↦
          told-past (λ g. all_nines (wheels_in g)) groups c.in-Some.place
          (omega (arith, w.if-place-lt-GROUPS.false, c.type_inv.groups))
    ])

pub returns : goal.returns
returns c none = apart-end c.loop-place.left c.args.bits (nines_of c.args.groups.now) (c.take_lowest.ensures.none c.in_default.is) c.loop-place.invariant
