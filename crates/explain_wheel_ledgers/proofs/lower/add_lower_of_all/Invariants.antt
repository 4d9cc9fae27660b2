use Rattle.std.proofs.Common.{◌≡◌, ◌++◌, take}
use Rattle.std.specs.List.{flat_map}
use Rattle.explain_wheel_ledgers.specs.Lower.{lower_of}
use Rattle.explain_wheel_ledgers.proofs.lower.add_lower_of_all.Given as goal

-- those to which the entries so far lead are asked for
abbrev pub invariant-loop-entry : goal.invariant-loop-entry
invariant-loop-entry l =
    l.lower.items
    ≡ l.initial.lower.items ++ flat_map (lower_of l.setup l.totals l.read_outs l.fn.account) (take l.entry-index l.entries)
