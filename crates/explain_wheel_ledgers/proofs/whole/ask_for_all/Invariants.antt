use Rattle.std.proofs.Common.{◌≡◌, drop}
use Rattle.explain_wheel_ledgers.specs.Whole.{with_lower}
use Rattle.explain_wheel_ledgers.proofs.whole.ask_for_all.Given as goal

-- those so far are asked for
abbrev pub invariant-loop-one : goal.invariant-loop-one
invariant-loop-one l = with_lower (drop l.one-index l.lower) l.asked.items ≡ with_lower l.lower l.initial.asked.items
