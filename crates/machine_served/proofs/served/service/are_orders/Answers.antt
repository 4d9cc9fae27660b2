use Rattle.std.proofs.Common.{◌≡◌, ◌∙◌, ap, refl, sym, subst, ℕ, ◌<◌, List, All, Vec, arith, get_or, length}
use Rattle.std.proofs.lemmas.Bool.{false≢true}
use Rattle.std.proofs.lemmas.List.{get_or-map, length-map, take_all}
use Rattle.std.proofs.lemmas.List.Elements.{All-map, All-more}
use Rattle.std.specs.declared.alloc.Global.{Global}
use Rattle.machine_served.proofs.served.service.are_orders.Goals as goal
use Rattle.machine_served.specs.ServedWords.Orders.{IsOrder, lists_of}

-- one of lists that are all orders is an order
one_of : (lists : List (Vec ℕ Global)) (k : ℕ) (list : Vec ℕ Global) → k < length lists → list ≡ get_or lists k list
    → All IsOrder (lists_of lists) → IsOrder list.items
one_of lists k list low is all =
    let long : length (lists_of lists) ≡ length lists = length-map lists _ in
    let here : get_or (lists_of lists) k list.items ≡ list.items =
    get_or-map (λ (one : Vec ℕ Global). one.items) lists k list list.items low ∙ ap (λ (one : Vec ℕ Global). one.items) (sym is) in
    subst IsOrder here (all k list.items (omega (arith, long, low)))

pub returns-then-not-is_order : goal.returns-then-not-is_order
returns-then-not-is_order c = (
  λ no. absurd (false≢true no),
  λ all.
      let order = one_of c.args.orders.now c.loop-order.order-index c.order-item.result c.loop-order-test.true c.order-item.is all in
      absurd (false≢true (sym c.if-not-is_order.true ∙ c.is_order.ensures.1 (subst IsOrder (sym c.as_slice.ensures.value) order))),
)

pub loop-order-preserved : goal.loop-order-preserved
loop-order-preserved c =
    All-more (λ (list : Vec ℕ Global). IsOrder list.items) c.args.orders.now c.loop-order.order-index c.order-item.result
    c.loop-order-test.true c.loop-order.invariant
    (subst (λ (list : Vec ℕ Global). IsOrder list.items) c.order-item.is
    (subst IsOrder c.as_slice.ensures.value (c.is_order.ensures.0 c.if-not-is_order.false)))

pub returns : goal.returns
returns c = (
  λ yes.
      All-map IsOrder (λ (list : Vec ℕ Global). list.items) c.args.orders.now
      (subst (All (λ list. IsOrder list.items)) (take_all c.loop-order.order-index c.args.orders.now c.loop-order-test.false)
      c.loop-order.invariant),
  λ all. refl,
)
