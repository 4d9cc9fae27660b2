use Rattle.std.proofs.Common.{ap, refl, sym, ◌++◌, ◌∙◌}
use Rattle.machine.specs.Cycles.{line_of}
use Rattle.machine.specs.Feeds.{Fed, begun}
use Rattle.machine.specs.Machine.{MachineState}
use Rattle.machine.proofs.FeedSteps.{ends-falls}
use Rattle.machine.proofs.Going.{Gone-more, Gone-all}
use Rattle.machine.proofs.units.Units.feed.Goals as goal

pub loop-cycle-smaller : goal.loop-cycle-smaller
loop-cycle-smaller c =
    let goes = c.run_due-waits.ensures.goes_on in
    let old : Fed = record { machine = c.loop-cycle.self; waits = c.loop-cycle.waits; next = c.args.next.now } in
    let new : Fed = record { machine = c.run_due-waits.new.self; waits = c.run_due-waits.result; next = c.args.next.now } in
    ends-falls c.in-Some.cycle old new goes.due goes.ends goes.waits

pub loop-cycle-preserved : goal.loop-cycle-preserved
loop-cycle-preserved c =
    let old : Fed = record { machine = c.loop-cycle.self; waits = c.loop-cycle.waits; next = c.args.next.now } in
    let new : Fed = record { machine = c.run_due-waits.new.self; waits = c.run_due-waits.result; next = c.args.next.now } in
    Gone-more c.args.net.now (begun c.args.self.now c.args.next.now) c.args.out.now.items old c.loop-cycle.out.items
    c.in-Some.cycle new (line_of c.run_due-waits.new.self) c.append_line.new.lines.items c.loop-cycle.invariant
    c.run_due-waits.ensures.step refl
    (c.in_ok-append_line.ensures.appended ∙ ap (λ (m : MachineState). c.loop-cycle.out.items ++ line_of m) c.self.view_is)

pub returns-clause-fed : goal.returns-clause-fed
returns-clause-fed c =
    let now : Fed = record { machine = c.loop-cycle.self; waits = c.loop-cycle.waits; next = c.args.next.now } in
    Gone-all c.args.net.now c.args.self.now c.args.next.now c.args.out.now.items now c.loop-cycle.out.items
    c.loop-cycle.invariant (sym c.due_in.ensures ∙ c.in_default.is)
