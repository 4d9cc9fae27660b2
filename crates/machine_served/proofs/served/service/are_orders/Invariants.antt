use Rattle.std.proofs.Common.{All, take}
use Rattle.machine_served.specs.ServedWords.Orders.{IsOrder}
use Rattle.machine_served.proofs.served.service.are_orders.Given as goal

-- the lists so far are orders
abbrev pub invariant-loop-order : goal.invariant-loop-order
invariant-loop-order l = All (λ list. IsOrder list.items) (take l.order-index l.orders)
