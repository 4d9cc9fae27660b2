use Rattle.explain_wheel_ledgers.proofs.Down.{DownTo}
use Rattle.explain_wheel_ledgers.proofs.whole.all_told.Given as goal

-- the depths so far are told
abbrev pub invariant-loop-depth : goal.invariant-loop-depth
invariant-loop-depth l =
    DownTo l.setup l.cards l.totals l.read_outs l.fn.ends l.fn.first.items l.asked.items l._depth l.told l.text.items
