use Rattle.std.specs.Prelude.{◌≡◌, map, take}
use Rattle.explain_wheel_ledgers.specs.Whole.{ledger_asked}
use Rattle.explain_wheel_ledgers.proofs.whole.ledgers_asked.Given as goal

-- those of the groups so far
abbrev pub invariant-loop-one : goal.invariant-loop-one
invariant-loop-one l = l.ledgers.items ≡ map (ledger_asked l.totals) (take l.one-index l.asked)
