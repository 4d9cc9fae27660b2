use Rattle.std.proofs.Common.{◌≡◌, ◌∙◌, ap, sym, refl, subst, arith, List, []}
use Rattle.machine.proofs.FewCycles.{IsSupplied, ahead}
use Rattle.machine.proofs.Order.{MachineLines-in_order}
use Rattle.machine.specs.Cycles.{line_of}
use Rattle.machine.specs.Machine.{MachineState}
use Rattle.machine.specs.Runs.{InRun, cards_moved, run_at_start}
use Rattle.page_text.specs.declared.placed_lines.placed_line.PlacedLine.{PlacedLine}
use Rattle.machine_served.specs.ServedRuns.Course.{IsPanelOf}
use Rattle.machine_served.specs.ServedRuns.Runs.{no_counts}
use Rattle.machine_served.proofs.ServedRuns.Running.{RunSoFar, goes_on, run_all, run_none, run_step, served_lines, start_ahead, start_ordered, start_supplied}
use Rattle.machine_served.specs.ServedUnits.AnyUnit.{AreInOrder}
use Rattle.machine_served.proofs.served_runs.run.simulate_served.Goals as goal

pub loop-cycle-init : goal.loop-cycle-init
loop-cycle-init c =
    let wiring = c.args.setup.now in
    let cards = c.args.cards.now in
    let now : InRun = record { machine = c.move_cards-hopper.new.units; hopper = c.move_cards-hopper.result.now } in
    let is : run_at_start wiring cards ≡ now =
    ap (λ (m : MachineState). cards_moved m cards) (sym c.new-units.ensures) ∙ c.move_cards-hopper.ensures in
    let few = start_ahead wiring cards in
    let same = ap ahead is in
    record {
      goes = subst (λ (lines : List PlacedLine). RunSoFar wiring c.args.service.now cards now no_counts lines) (sym c.new-lines.ensures.items)
          (subst (λ (run : InRun). RunSoFar wiring c.args.service.now cards run no_counts []) is
          (run_none wiring c.args.service.now cards));
      supplied = subst (λ (run : InRun). IsSupplied run.machine) is (start_supplied wiring cards);
      ordered = subst (λ (run : InRun). AreInOrder run.machine) is (start_ordered wiring cards);
      rounds = omega (arith, few, same);
      seen = omega (arith, few, same);
    }

pub serve_cycle-requires-clause-panel : goal.serve_cycle-requires-clause-panel
serve_cycle-requires-clause-panel c = (
  c.args.setup.now,
  record { net = c.in_ok-net.ensures; waits = c.all_waits-waits.ensures c.args.setup.now c.in_ok-net.ensures },
)

pub serve_cycle-requires-clause-rounds : goal.serve_cycle-requires-clause-rounds
serve_cycle-requires-clause-rounds c = omega (arith, c.loop-cycle.invariant.rounds, c.requires)

pub serve_cycle-requires-clause-seen : goal.serve_cycle-requires-clause-seen
serve_cycle-requires-clause-seen c = omega (arith, c.loop-cycle.invariant.seen, c.requires)

pub loop-cycle-smaller : goal.loop-cycle-smaller
loop-cycle-smaller c =
    let wiring = c.args.setup.now in
    let is_panel : IsPanelOf wiring (record { net = c.in_ok-net.net; waits = c.all_waits-waits.result }) =
    record { net = c.in_ok-net.ensures; waits = c.all_waits-waits.ensures wiring c.in_ok-net.ensures } in
    let now : InRun = record { machine = c.loop-cycle.units; hopper = c.loop-cycle.hopper.now } in
    let ready : InRun = record { machine = c.make_ready-hopper.new.units; hopper = c.make_ready-hopper.result.now } in
    (goes_on wiring c.args.service.now c.in-Some.cycle now ready c.serve_cycle.result.0 c.loop-cycle.counts c.serve_cycle.result.1
    c.make_ready-hopper.ensures c.loop-cycle.invariant.supplied (sym c.cycle_due.ensures ∙ c.in-Some.is) c.loop-cycle.invariant.ordered
    (c.serve_cycle.ensures.ran wiring is_panel)).falls

pub loop-cycle-preserved : goal.loop-cycle-preserved
loop-cycle-preserved c =
    let wiring = c.args.setup.now in
    let is_panel : IsPanelOf wiring (record { net = c.in_ok-net.net; waits = c.all_waits-waits.result }) =
    record { net = c.in_ok-net.ensures; waits = c.all_waits-waits.ensures wiring c.in_ok-net.ensures } in
    let now : InRun = record { machine = c.loop-cycle.units; hopper = c.loop-cycle.hopper.now } in
    let ready : InRun = record { machine = c.make_ready-hopper.new.units; hopper = c.make_ready-hopper.result.now } in
    let due = sym c.cycle_due.ensures ∙ c.in-Some.is in
    let on =
    goes_on wiring c.args.service.now c.in-Some.cycle now ready c.serve_cycle.result.0 c.loop-cycle.counts c.serve_cycle.result.1
    c.make_ready-hopper.ensures c.loop-cycle.invariant.supplied due c.loop-cycle.invariant.ordered (c.serve_cycle.ensures.ran wiring is_panel) in
    record {
      goes = subst
          (λ (lines : List PlacedLine).
          RunSoFar wiring c.args.service.now c.args.cards.now
          (record { machine = c.serve_cycle.result.0; hopper = c.make_ready-hopper.result.now }) c.serve_cycle.result.1 lines)
          (sym c.in_ok-append_line.ensures.appended)
          (run_step wiring c.args.service.now c.args.cards.now now ready c.loop-cycle.counts c.serve_cycle.result.1 c.loop-cycle.lines.items
          (line_of c.serve_cycle.result.0) c.in-Some.cycle c.serve_cycle.result.0 c.make_ready-hopper.ensures due
          (c.serve_cycle.ensures.ran wiring is_panel) refl c.loop-cycle.invariant.goes);
      supplied = on.supplied;
      ordered = on.ordered;
      rounds = omega (arith, c.loop-cycle.invariant.rounds, on.falls, c.serve_cycle.ensures.few_rounds);
      seen = omega (arith, c.loop-cycle.invariant.seen, on.falls, c.serve_cycle.ensures.few_seen);
    }

pub returns : goal.returns
returns c =
    let wiring = c.args.setup.now in
    let cards = c.args.cards.now in
    let now : InRun = record { machine = c.loop-cycle.units; hopper = c.loop-cycle.hopper.now } in
    let run = run_all wiring c.args.service.now cards now c.loop-cycle.counts c.loop-cycle.lines.items
    (sym c.cycle_due.ensures ∙ c.in_default.is) c.loop-cycle.invariant.goes in
    let lines = served_lines wiring c.args.service.now cards c.loop-cycle.lines.items c.loop-cycle.counts run in
    record {
      lines = lines;
      in_order = MachineLines-in_order wiring cards c.loop-cycle.lines.items c.known-form.ensures.form c.requires lines;
      served = run;
    }
