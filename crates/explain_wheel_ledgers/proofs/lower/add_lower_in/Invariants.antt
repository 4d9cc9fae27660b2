use Rattle.std.proofs.Common.{◌≡◌, ◌++◌}
use Rattle.std.specs.List.{flat_map, range_with_len}
use Rattle.explain_wheel_ledgers.specs.Lower.{lower_at}
use Rattle.explain_wheel_ledgers.proofs.lower.add_lower_in.Given as goal

-- those of the places so far are asked for
abbrev pub invariant-loop-place : goal.invariant-loop-place
invariant-loop-place l =
    l.lower.items
    ≡ l.initial.lower.items
    ++ flat_map (lower_at l.setup l.totals l.read_outs.groups l.fn.account l.fn.before) (range_with_len 0 l.place)
