use Rattle.std.proofs.Common.{◌≡◌}
use Rattle.std.specs.List.{flat_map, range_with_len}
use Rattle.explain_wheel_ledgers.specs.Whole.{asked_at}
use Rattle.explain_wheel_ledgers.proofs.whole.asked_of.Given as goal

-- those of the places so far are asked for
abbrev pub invariant-loop-place : goal.invariant-loop-place
invariant-loop-place l = l.asked.items ≡ flat_map (asked_at l.ways l.fn.before) (range_with_len 0 l.place)
