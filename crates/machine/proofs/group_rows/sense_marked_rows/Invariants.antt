use Rattle.std.proofs.Common.{◌≡◌}
use Rattle.counters.specs.Counters.{counter_sensed}
use Rattle.net.specs.RowSets.{after_rows, pictures_of}
use Rattle.machine.specs.Marked.{marked_changed}
use Rattle.machine.proofs.group_rows.sense_marked_rows.Given as goal

-- with the marks left all is done
abbrev pub invariant-loop-place : goal.invariant-loop-place
invariant-loop-place l =
    marked_changed l.left 0 (λ group. after_rows counter_sensed l.cycle (pictures_of l.pictures) group) l.groups
    ≡ marked_changed l.marks 0 (λ group. after_rows counter_sensed l.cycle (pictures_of l.pictures) group) l.fn.groups

abbrev pub decreases-loop-place : goal.decreases-loop-place
decreases-loop-place l = l.left
