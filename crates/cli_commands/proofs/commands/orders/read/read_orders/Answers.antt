use Rattle.std.proofs.Common.{rules, ◌∙◌, sym, subst, ℕ, ◌+◌, List, [], ◌∷◌, Option, Vec, IfSome, IfNone}
use Rattle.std.proofs.lemmas.Bool.{false≢true}
use Rattle.std.proofs.lemmas.List.{length-map, map-append}
use Rattle.std.specs.declared.alloc.Global.{Global}
use Rattle.card_code.specs.Lines.{lines_of}
use Rattle.cli_commands.proofs.CommandsWords.UnitOrders.OrdersText.{HaveRead, all_read, lowest, none_read, one_read, refused}
use Rattle.cli_commands.specs.CommandsWords.UnitOrders.OrdersText.{IsLowestWithout, SayOrders, SaysOrder}
use Rattle.cli_commands.proofs.commands.orders.read.read_orders.Goals as goal
use Rattle.machine_served.specs.ServedWords.Orders.{lists_of}

pub loop-line-init : goal.loop-line-init
loop-line-init c =
    let lines = lines_of c.args.text.now in
    subst (λ (orders : List (Vec ℕ Global)). HaveRead lines lines (lists_of orders)) (sym c.new-orders.ensures.items) (none_read lines)

pub returns-in-None-clause-fault : goal.returns-in-None-clause-fault
returns-in-None-clause-fault c _ =
    let lines = lines_of c.args.text.now in
    let line = c.in-Some.line.now in
    let orders = c.loop-line.orders.items in
    subst (λ (count : ℕ). IsLowestWithout lines (count + 1))
    (length-map orders (λ (one : Vec ℕ Global). one.items) ∙ search rules)
    (lowest line (lines_of c.in-Some.after.now) c.loop-line.invariant (c.in-Some.ensures {u = tt}).first
    (subst (λ (answer : Option (Vec ℕ Global)). IfNone answer ((other : List ℕ) → ¬ SaysOrder line other)) c.in-None.is
    (c.in_ok-order.ensures {u = tt}).no_order))

pub loop-line-smaller : goal.loop-line-smaller
loop-line-smaller c = (c.in-Some.ensures {u = tt}).shorter

pub loop-line-preserved : goal.loop-line-preserved
loop-line-preserved c =
    let lines = lines_of c.args.text.now in
    let line = c.in-Some.line.now in
    let after = lines_of c.in-Some.after.now in
    let orders = c.loop-line.orders.items in
    let order = c.in-Some-2.order in
    let items = (c.in_ok-push-in-Some-2.ensures {u = tt}).items in
    subst (λ (all : List (Vec ℕ Global)). HaveRead lines after (lists_of all)) (sym items)
    (subst (λ (all : List (List ℕ)). HaveRead lines after all) (sym (map-append (λ (one : Vec ℕ Global). one.items) orders (order ∷ [])))
    (one_read line after order.items c.loop-line.invariant (c.in-Some.ensures {u = tt}).first
    (subst (λ (answer : Option (Vec ℕ Global)). IfSome answer (λ v. SaysOrder line v.items)) c.in-Some-2.is
    (c.in_ok-order.ensures {u = tt}).order)))

pub returns-in-Ok-clause-read : goal.returns-in-Ok-clause-read
returns-in-Ok-clause-read c =
    let lines = lines_of c.args.text.now in
    let orders = lists_of c.loop-line.orders.items in
    subst (λ (service : List (List ℕ)). SayOrders lines service) (sym (c.in-Ok.ensures {u = tt}).orders)
    (all_read (subst (λ (left : List (List ℕ)). HaveRead lines left orders) (c.in_default.ensures {u = tt}).none c.loop-line.invariant))

pub returns-in-Err-clause-fault : goal.returns-in-Err-clause-fault
returns-in-Err-clause-fault c _ =
    let lines = lines_of c.args.text.now in
    let orders = lists_of c.loop-line.orders.items in
    refused lines (subst (λ (left : List (List ℕ)). HaveRead lines left orders) (c.in_default.ensures {u = tt}).none c.loop-line.invariant)
    (λ are. false≢true ((c.in-Err.ensures {u = tt}).accepted.1 are))
