use Rattle.std.proofs.Common.{◌∙◌, sym, subst, ℕ, List, Option, Vec, Bor, IfSome, IfNone}
use Rattle.std.proofs.lemmas.Bool.{false≢true}
use Rattle.std.specs.declared.alloc.Global.{Global}
use Rattle.cli_commands.proofs.CommandsWords.UnitOrders.OrdersText.{no_units_no_order, other_units_no_order}
use Rattle.cli_commands.specs.CommandsWords.UnitOrders.OrdersText.{NameUnits}
use Rattle.cli_commands.proofs.commands.orders.read.read_order.Goals as goal
use Rattle.machine_served.specs.ServedWords.Orders.{IsOrder}
use Rattle.chart_lines.specs.TokensWords.Texts.{texts}
use Rattle.chart_lines.specs.TokensWords.Tokens.{HasTokens}

pub returns-in_default-2-clause-no_order : goal.returns-in_default-2-clause-no_order
returns-in_default-2-clause-no_order c =
    no_units_no_order
    (subst (λ (tokens : List (Bor (List ℕ))). HasTokens c.args.line.now (texts tokens)) (sym c.as_slice.ensures.value)
    (subst (λ (answer : Option (Vec (Bor (List ℕ)) Global)). IfSome answer (λ v. HasTokens c.args.line.now (texts v.items))) c.in-Some.is
    (c.in_ok-tokens.ensures {u = tt}).divided))
    (subst (λ (answer : Option (Vec ℕ Global)). IfNone answer ((others : List ℕ) → ¬ NameUnits (texts c.as_slice.result.now) others))
    c.in_default-2.is (c.in_ok-units.ensures {u = tt}).no_units)

pub returns-clause-no_order : goal.returns-clause-no_order
returns-clause-no_order c =
    other_units_no_order
    (subst (λ (tokens : List (Bor (List ℕ))). HasTokens c.args.line.now (texts tokens)) (sym c.as_slice.ensures.value)
    (subst (λ (answer : Option (Vec (Bor (List ℕ)) Global)). IfSome answer (λ v. HasTokens c.args.line.now (texts v.items))) c.in-Some.is
    (c.in_ok-tokens.ensures {u = tt}).divided))
    (subst (λ (answer : Option (Vec ℕ Global)). IfSome answer (λ v. NameUnits (texts c.as_slice.result.now) v.items)) c.in-Some-2.is
    (c.in_ok-units.ensures {u = tt}).units)
    (λ whole. false≢true (sym c.if-is_order.false ∙ c.is_order.ensures.1 (subst IsOrder (sym c.as_slice-2.ensures.value) whole)))
