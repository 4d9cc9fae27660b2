use Rattle.std.proofs.Common.{ℕ, ◌≤◌, arith, get_or, below_more}
use Rattle.allocate.specs.HelperTaking.{IsUsed, IsWidthTaken}
use Rattle.allocate.proofs.Lowest.{all_taken-by_widths, lowest-by_width, rising}
use Rattle.allocate.proofs.groups.lowest_free.Goals as goal
use Rattle.allocate.proofs.groups.lowest_free.Goals.{then-need-from+in_default, else-need-from}

pub returns-in-Some : goal.returns-in-Some
returns-in-Some c =
    lowest-by_width c.args.need c.args.profile.now (IsUsed c.args.taken.now c.args.aside) c.loop-width.width-index c.in-Some.group
    (omega arith) c.loop-width.invariant (omega (arith, c.from.ensures)) c.in-Some.ensures

pub loop-width-preserved : goal.loop-width-preserved
loop-width-preserved c =
    let width : ℕ = get_or rising c.loop-width.width-index 0 in
    let here : c.args.need ≤ width → IsWidthTaken width c.args.profile.now (IsUsed c.args.taken.now c.args.aside) =
    elim c.if-need-from.branch [
      | then-need-from+in_default w ↦ λ _. w.in_default.ensures
      | else-need-from w ↦ λ enough. absurd (omega (arith, w.if-need-from.false, c.from.ensures))
    ] in
    below_more _ c.loop-width.width-index c.loop-width.invariant here

pub returns : goal.returns
returns c =
    all_taken-by_widths c.args.need c.args.profile.now (IsUsed c.args.taken.now c.args.aside)
    (λ k within. c.loop-width.invariant k (omega arith))
