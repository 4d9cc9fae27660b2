use Rattle.std.proofs.Common.{◌↔◌, drop}
use Rattle.page_text.specs.PlacedLines.InOrder.{FollowInOrder, IsInOrder}
use Rattle.page_text.proofs.placed_lines.order.in_order.Given as goal

abbrev pub invariant-loop-placed : goal.invariant-loop-placed
invariant-loop-placed l =
    IsInOrder l.form_lines l.lines ↔ FollowInOrder l.form_lines l.page l.line (drop l.placed-index l.lines)
