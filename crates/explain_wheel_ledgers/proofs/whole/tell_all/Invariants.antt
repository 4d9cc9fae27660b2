use Rattle.explain_wheel_ledgers.proofs.Down.{ToldSome}
use Rattle.explain_wheel_ledgers.proofs.whole.tell_all.Given as goal

-- the ledgers so far are told
abbrev pub invariant-loop-place : goal.invariant-loop-place
invariant-loop-place l =
    ToldSome l.setup l.cards l.totals l.read_outs l.fn.ends l.asked l.place l.initial.text.items l.text.items l.lower.items
