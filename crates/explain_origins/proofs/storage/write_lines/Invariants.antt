use Rattle.std.proofs.Common.{◌≡◌, ◌++◌}
use Rattle.std.specs.List.{flat_map, range_with_len}
use Rattle.explain_origins.specs.Storage.{line_at}
use Rattle.explain_origins.proofs.storage.write_lines.Given as goal

-- the lines of the rows so far are written
abbrev pub invariant-loop-place : goal.invariant-loop-place
invariant-loop-place l =
    l.text.items ≡ l.initial.text.items ++ flat_map (line_at l.setup l.cards l.fn.since l.fn.unit l.ways) (range_with_len 0 l.place)
