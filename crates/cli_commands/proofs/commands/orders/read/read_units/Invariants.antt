-- The tokens so far name the units so far.
use Rattle.std.proofs.Common.{◌≡◌, ◌<◌, ℕ, [], get_or, length}
use Rattle.chart_lines.specs.TokensWords.Number.{IsNumberTo}
use Rattle.chart_lines.specs.TokensWords.Texts.{texts}
use Rattle.cli_commands.proofs.commands.orders.read.read_units.Given as goal

abbrev pub invariant-loop-token : goal.invariant-loop-token
invariant-loop-token l =
    (length l.units.items ≡ l.token-index)
    × ((place : ℕ) → place < l.token-index → IsNumberTo 45 (get_or (texts l.tokens) place []) (get_or l.units.items place 0))
