use Rattle.std.proofs.Common.{List, subst, sym, ℕ}
use Rattle.cli_decks.proofs.CheckCalls.LargeTold.{large_written}
use Rattle.cli_decks.specs.CheckCalls.Large.{TellsLarge}
use Rattle.cli_decks.proofs.check_calls.large.put_large.Goals as goal

pub returns-clause-written : goal.returns-clause-written
returns-clause-written g c =
    large_written c.put.result c.args.chart.now c.args.deck.now c.as_slice.result.now _ _
    (subst (λ (t : List ℕ). TellsLarge c.args.chart.now c.args.deck.now t) (sym c.as_slice.ensures.value) c.in_ok-text.ensures.tells)
    c.put.ensures.written
