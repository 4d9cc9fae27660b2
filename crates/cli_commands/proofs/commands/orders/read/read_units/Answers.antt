use Rattle.std.proofs.Common.{ap, sym, subst, arith, ℕ, ◌+◌, ◌<◌, List, [], Bor, get_or, length}
use Rattle.std.proofs.lemmas.List.{length-map}
use Rattle.cli_commands.proofs.CommandsWords.UnitOrders.OrdersText.{each_more, length_more, token_is}
use Rattle.cli_commands.proofs.commands.orders.read.read_units.Goals as goal
use Rattle.chart_lines.specs.TokensWords.Number.{IsNumberTo}
use Rattle.chart_lines.specs.TokensWords.Texts.{texts}

pub loop-token-init : goal.loop-token-init
loop-token-init c = (ap length c.new-units.ensures.items, λ place low. absurd (omega (arith, low)))

pub returns-in-None-clause-no_units : goal.returns-in-None-clause-no_units
returns-in-None-clause-no_units c others named =
    let at = c.loop-token.token-index in
    let tokens = c.args.tokens.now in
    let long = length-map tokens (λ (token : Bor (List ℕ)). token.now) in
    (c.in-None.ensures {u = tt}).no_number (get_or others at 0)
    (subst (λ (token : List ℕ). IsNumberTo 45 token (get_or others at 0)) (token_is tokens at _ c.loop-token-test.true)
    (named.each at (omega (arith, long, c.loop-token-test.true))))

pub loop-token-preserved : goal.loop-token-preserved
loop-token-preserved c =
    let at = c.loop-token.token-index in
    let tokens = c.args.tokens.now in
    let units = c.loop-token.units.items in
    let unit = c.in-Some.unit in
    let items = (c.in_ok-push-in-Some.ensures {u = tt}).items in (
      length_more units _ unit at c.loop-token.invariant.0 items,
      subst (λ (all : List ℕ). (place : ℕ) → place < at + 1 → IsNumberTo 45 (get_or (texts tokens) place []) (get_or all place 0)) (sym items)
          (each_more (IsNumberTo 45) (texts tokens) units [] 0 unit at c.loop-token.invariant.0 c.loop-token.invariant.1
          (subst (λ (token : List ℕ). IsNumberTo 45 token unit) (sym (token_is tokens at _ c.loop-token-test.true))
          (c.in-Some.ensures {u = tt}).number)),
    )

pub returns-clause-units : goal.returns-clause-units
returns-clause-units c =
    let long = length-map c.args.tokens.now (λ (token : Bor (List ℕ)). token.now) in
    let end = c.loop-token-test.false in
    let to = c.loop-token.auto.token-index-end in
    record {
      long = omega (arith, long, end, to, c.loop-token.invariant.0);
      each = λ place low. c.loop-token.invariant.1 place (omega (arith, long, end, to, low));
    }
