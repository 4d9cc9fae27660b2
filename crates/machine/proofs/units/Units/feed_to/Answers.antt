use Rattle.std.proofs.Common.{sym, refl, ◌∙◌}
use Rattle.machine.specs.Feeds.{Fed, begun}
use Rattle.machine.proofs.FeedSteps.{ends-falls}
use Rattle.machine.proofs.KeptFeeds.{IsPast-start, IsPast-more, IsPast-all}
use Rattle.machine.proofs.units.Units.feed_to.Goals as goal

pub loop-cycle-init : goal.loop-cycle-init
loop-cycle-init c = IsPast-start c.args.net.now (begun c.args.self.now c.args.next.now) _ c.args.page c.args.line c.begin-waits.ensures

pub loop-cycle-smaller : goal.loop-cycle-smaller
loop-cycle-smaller c =
    let goes = c.run_due_kept-still.ensures.goes_on in
    let old : Fed = record { machine = c.loop-cycle.self; waits = c.loop-cycle.waits; next = c.args.next.now } in
    let new : Fed = record { machine = c.run_due_kept-still.new.self; waits = c.run_due_kept-still.result.0; next = c.args.next.now } in
    ends-falls c.in-Some.cycle old new goes.due goes.ends goes.waits

pub loop-cycle-preserved : goal.loop-cycle-preserved
loop-cycle-preserved c =
    let old : Fed = record { machine = c.loop-cycle.self; waits = c.loop-cycle.waits; next = c.args.next.now } in
    let new : Fed = record { machine = c.run_due_kept-still.new.self; waits = c.run_due_kept-still.result.0; next = c.args.next.now } in
    IsPast-more c.args.net.now (begun c.args.self.now c.args.next.now) old c.args.page c.args.line c.in-Some.cycle new
    c.loop-cycle.invariant c.run_due_kept-still.ensures.step (c.placed_at.ensures.none c.in_default-placed_at.is)

pub returns-in-Some-placed_at-clause-found : goal.returns-in-Some-placed_at-clause-found
returns-in-Some-placed_at-clause-found c = λ wiring is_net. record {
  before = record { machine = c.loop-cycle.self; waits = c.loop-cycle.waits; next = c.args.next.now };
  after = record { machine = c.run_due_kept-still.new.self; waits = c.run_due_kept-still.result.0; next = c.args.next.now };
  steps = c.loop-cycle.invariant.steps wiring is_net;
  step = c.run_due_kept-still.ensures.step wiring is_net;
  placed = c.in-Some-placed_at.ensures.placed;
  waits = refl;
  points = c.run_due_kept-still.ensures.points wiring is_net;
}

pub returns-clause-none : goal.returns-clause-none
returns-clause-none c wiring is_net none =
    let now : Fed = record { machine = c.loop-cycle.self; waits = c.loop-cycle.waits; next = c.args.next.now } in
    IsPast-all c.args.net.now c.args.self.now c.args.next.now now c.args.page c.args.line c.loop-cycle.invariant
    (sym c.due_in.ensures ∙ c.in_default.is) wiring is_net
