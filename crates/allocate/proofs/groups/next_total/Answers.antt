use Rattle.std.proofs.Common.{sym}
use Rattle.allocate.proofs.Taking.{next-stays, next-moves, none-from, some-waits}
use Rattle.allocate.proofs.groups.next_total.Goals as goal
use Rattle.allocate.proofs.groups.next_total.Goals.{then-is_none+then-goes_first, else-is_none}
use Rattle.allocate.proofs.groups.next_total.Goals.{else-is_none-via-then-is_none+else-goes_first}
use Rattle.allocate.proofs.groups.next_total.Goals.{else-is_none-via-else-is_none}

pub loop-place-preserved : goal.loop-place-preserved
loop-place-preserved c =
    let found = c.loop-place.invariant in
    elim c.if-is_none.branch [
      | then-is_none+then-goes_first w ↦ rw w.next-is
          (next-moves c.args.totals.now c.args.taken.now c.loop-place.place c.loop-place.next found
          (none-from _ w.if-is_none.ensures) (sym w.if-goes_first.ensures))
      | else-is_none w ↦ rw w.next-is
          (next-stays c.args.totals.now c.args.taken.now c.loop-place.place c.loop-place.next found
          (elim w.else-is_none.branch [
            | else-is_none-via-then-is_none+else-goes_first w' ↦ λ _. sym w'.if-goes_first.ensures
            | else-is_none-via-else-is_none w' ↦ λ waits. absurd (some-waits _ w'.if-is_none.ensures waits)
          ]))
    ]
