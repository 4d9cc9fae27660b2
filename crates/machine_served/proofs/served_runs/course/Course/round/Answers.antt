use Rattle.std.proofs.Common.{◌+◌, arith, drop, slice_index_or}
use Rattle.std.proofs.lemmas.List.{drop_all, drop_more}
use Rattle.std.proofs.lemmas.List.Elements.{Contains-get_or}
use Rattle.machine_served.specs.ServedRuns.Course.{served_in}
use Rattle.machine_served.proofs.ServedRuns.FullOrders.{order_units}
use Rattle.machine_served.proofs.ServedRuns.Taken.{round_of, round_turn}
use Rattle.machine_served.proofs.served_runs.course.Course.round.Goals as goal

pub take_turn-seen-requires : goal.take_turn-seen-requires
take_turn-seen-requires c =
    order_units c.args.order.now c.requires (slice_index_or c.args.order.now c.loop-unit.unit-index 0)
    (Contains-get_or c.args.order.now c.loop-unit.unit-index 0 c.loop-unit-test.true)

pub loop-unit-preserved : goal.loop-unit-preserved
loop-unit-preserved c =
    let order = c.args.order.now in
    let place = c.loop-unit.unit-index in
    let unit = slice_index_or order place 0 in
    record {
      goes = λ wiring is_panel.
          round_turn wiring c.args.cycle order (drop place order) (drop (place + 1) order) unit (served_in c.args.self.now)
          (served_in c.loop-unit.self) (served_in c.take_turn-seen.new.self) c.loop-unit.seen c.take_turn-seen.result
          (drop_more order place 0 c.loop-unit-test.true) (c.take_turn-seen.ensures.turn wiring is_panel)
          (c.loop-unit.invariant.goes wiring is_panel);
      few = omega (arith, c.loop-unit.invariant.few, c.take_turn-seen.ensures.few);
    }

pub returns-clause-round : goal.returns-clause-round
returns-clause-round c wiring is_panel =
    let order = c.args.order.now in
    round_of wiring c.args.cycle order (drop c.loop-unit.unit-index order) (served_in c.args.self.now) (served_in c.loop-unit.self)
    c.loop-unit.seen (drop_all c.loop-unit.unit-index order (omega (arith, c.loop-unit-test.false))) (c.loop-unit.invariant.goes wiring is_panel)
