use Rattle.std.proofs.Common.{◌≡◌, ◌-◌, ◌++◌}
use Rattle.std.specs.List.{flat_map, range_with_len}
use Rattle.explain_words.specs.TracesWords.TracedUnits.{pilot_told}
use Rattle.explain_words.proofs.traces.places.write_pilots.Given as goal

-- the pilots so far are told
abbrev pub invariant-loop-pilot : goal.invariant-loop-pilot
invariant-loop-pilot l = l.text.items ≡ l.initial.text.items ++ flat_map (pilot_told l.pilots) (range_with_len 1 (l.pilot - 1))
