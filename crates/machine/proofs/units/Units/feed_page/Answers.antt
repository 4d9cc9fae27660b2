use Rattle.std.proofs.Common.{sym, ◌∙◌}
use Rattle.machine.specs.Feeds.{Fed}
use Rattle.machine.proofs.FeedSteps.{ends-falls}
use Rattle.machine.proofs.KeptPages.{IsKeeping-start, IsKeeping-more, IsKeeping-all}
use Rattle.machine.proofs.units.Units.feed_page.Goals as goal

pub loop-cycle-init : goal.loop-cycle-init
loop-cycle-init c =
    IsKeeping-start c.args.net.now c.args.self.now c.args.next.now _ c.args.page c.args.kept.now.items c.begin-waits.ensures

pub loop-cycle-smaller : goal.loop-cycle-smaller
loop-cycle-smaller c =
    let goes = c.run_due_kept-still.ensures.goes_on in
    let old : Fed = record { machine = c.loop-cycle.self; waits = c.loop-cycle.waits; next = c.args.next.now } in
    let new : Fed = record { machine = c.run_due_kept-still.new.self; waits = c.run_due_kept-still.result.0; next = c.args.next.now } in
    ends-falls c.in-Some.cycle old new goes.due goes.ends goes.waits

pub loop-cycle-preserved : goal.loop-cycle-preserved
loop-cycle-preserved c =
    let old : Fed = record { machine = c.loop-cycle.self; waits = c.loop-cycle.waits; next = c.args.next.now } in
    let new : Fed = record { machine = c.run_due_kept-still.new.self; waits = c.run_due_kept-still.result.0; next = c.args.next.now } in
    IsKeeping-more c.args.net.now c.args.self.now c.args.next.now old c.args.page c.args.kept.now.items c.loop-cycle.kept.items
    c.in-Some.cycle new c.run_due_kept-still.result.1 c.placed_on.result c.keep.new.kept.items c.loop-cycle.invariant
    c.run_due_kept-still.ensures.step c.run_due_kept-still.ensures.points c.placed_on.ensures.placed c.placed_on.ensures.on_page
    c.in_ok-keep.ensures.kept

pub returns-clause-fed : goal.returns-clause-fed
returns-clause-fed c =
    let now : Fed = record { machine = c.loop-cycle.self; waits = c.loop-cycle.waits; next = c.args.next.now } in
    IsKeeping-all c.args.net.now c.args.self.now c.args.next.now now c.args.page c.args.kept.now.items c.loop-cycle.kept.items
    c.loop-cycle.invariant (sym c.due_in.ensures ∙ c.in_default.is)
