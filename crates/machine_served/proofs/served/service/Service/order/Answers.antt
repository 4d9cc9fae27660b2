use Rattle.std.proofs.Common.{◌≡◌, ◌∙◌, ◌<◌, ◌%◌, All, List, Vec, ℕ, ap, sym, subst, length, arith, slice_index_or}
use Rattle.std.proofs.Math.Nat.{mod-lt}
use Rattle.std.proofs.lemmas.List.{get_or-map, length-map}
use Rattle.std.proofs.lemmas.List.Elements.{All-get_or}
use Rattle.std.specs.declared.alloc.Global.{Global}
use Rattle.machine_served.specs.ServedWords.Orders.{IsOrder, lists_of}
use Rattle.machine_served.proofs.served.service.Service.order.Goals as goal

-- each list of a service is an order
order_at : (lists : List (Vec ℕ Global)) (i : ℕ) (list : Vec ℕ Global) → i < length lists → list ≡ slice_index_or lists i list
    → All IsOrder (lists_of lists) → IsOrder list.items
order_at lists i list low is all =
    subst IsOrder
    (get_or-map (λ (l : Vec ℕ Global). l.items) lists i list list.items low ∙ ap (λ (l : Vec ℕ Global). l.items) (sym is))
    (All-get_or IsOrder (lists_of lists) i list.items (omega (arith, length-map lists (λ (l : Vec ℕ Global). l.items), low)) all)

pub returns-clause-whole : goal.returns-clause-whole
returns-clause-whole c =
    let lists = c.self.inside.orders.items in
    let some : 0 < length lists = omega (arith, c.self.invariant.some, length-map lists (λ (l : Vec ℕ Global). l.items)) in
    let low : c.args.round % c.len.result < c.len.result = mod-lt c.args.round (omega (arith, some, c.len.ensures)) in
    subst IsOrder (sym c.as_slice.ensures.value)
    (order_at lists (c.args.round % c.len.result) c.index.result.now (omega (arith, low, c.len.ensures)) c.index.ensures c.self.invariant.each)
