use Rattle.std.proofs.Common.{◌≡◌, ◌||◌}
use Rattle.card_code.specs.Rows.{passing_place}
use Rattle.card_code.specs.declared.row.Row.{Row as CardRow}
use Rattle.counters.specs.Counters.{counter_emits}
use Rattle.hubs.specs.declared.hub.Hub.{Hub}
use Rattle.net.specs.HubRows.{has_row_at}
use Rattle.net.specs.declared.cycle.Point.TheVariants.{Row}
use Rattle.machine.specs.Marked.{any_marked}
use Rattle.machine.proofs.group_rows.emit_marked_rows.Given as goal

-- what stands, with what the groups of the marks left emit, is all
abbrev pub invariant-loop-place : goal.invariant-loop-place
invariant-loop-place l =
    (row : CardRow) (exit : Hub)
    → (has_row_at l.sets (passing_place row) exit || any_marked l.left 0 (λ group. counter_emits group l.cycle (Row row) exit) l.groups)
    ≡ (has_row_at l.fn.sets (passing_place row) exit || any_marked l.marks 0 (λ group. counter_emits group l.cycle (Row row) exit) l.groups)

abbrev pub decreases-loop-place : goal.decreases-loop-place
decreases-loop-place l = l.left
