use Rattle.std.proofs.Common.{◌∙◌}
use Rattle.allocate.proofs.Fitting.{HasGroupsFor-fits, IsWithinMachine-fits, Serves-fits}
use Rattle.allocate.proofs.allocation.allocate.Goals as goal

pub assign-requires-clause-enough : goal.assign-requires-clause-enough
assign-requires-clause-enough c = rw c.totals.ensures.value (HasGroupsFor-fits c.in_ok-wanted.wanted c.args.profile.now c.in_default.ensures.none)

pub in_order-requires : goal.in_order-requires
in_order-requires c =
    rw c.into_parts.ensures (IsWithinMachine-fits c.in_ok-wanted.wanted c.args.profile.now c.in_default.ensures.none c.pilots-pilots.ensures.standard)

pub returns-clause-is_for : goal.returns-clause-is_for
returns-clause-is_for c = record {
  serves =
      rw (← c.in_ok-wanted.ensures)
      (Serves-fits c.in_ok-wanted.wanted c.args.profile.now c.in_ok-in_order.field-0 c.in_default.ensures.none c.pilots-pilots.ensures.standard
      (rw c.in_ok-in_order.ensures.counters (rw c.totals.ensures.value at c.in_ok-counters.ensures.own))
      (c.in_ok-in_order.ensures.parts ∙ c.into_parts.ensures) (rw (← c.into_parts.ensures) c.in_ok-in_order.ensures.numbers));
  numbers = rw c.in_ok-in_order.ensures.parts c.in_ok-in_order.ensures.numbers;
}
