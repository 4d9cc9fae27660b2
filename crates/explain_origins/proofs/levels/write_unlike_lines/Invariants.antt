use Rattle.std.proofs.Common.{◌≡◌, ◌++◌, take}
use Rattle.std.specs.List.{flat_map}
use Rattle.explain_origins.specs.Levels.{unlike_at}
use Rattle.explain_origins.proofs.levels.write_unlike_lines.Given as goal

-- the rows so far are told
abbrev pub invariant-loop-row : goal.invariant-loop-row
invariant-loop-row l =
    l.text.items ≡ l.initial.text.items ++ flat_map (unlike_at l.setup l.cards l.fn.card l.fn.position) (take l.row-index l.rows)
