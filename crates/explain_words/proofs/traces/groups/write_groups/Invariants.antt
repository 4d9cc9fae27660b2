use Rattle.std.proofs.Common.{◌≡◌, ◌++◌, take}
use Rattle.std.specs.List.{flat_map}
use Rattle.counters.specs.Counters.{counter_ended}
use Rattle.explain_words.specs.TracesWords.TracedUnits.{group_told}
use Rattle.explain_words.proofs.traces.groups.write_groups.Given as goal

-- the groups so far are told
abbrev pub invariant-loop-group : goal.invariant-loop-group
invariant-loop-group l =
    l.text.items
    ≡ l.initial.text.items ++ flat_map (λ group. group_told group (counter_ended group l.fn.cycle)) (take l.group-index l.groups)
