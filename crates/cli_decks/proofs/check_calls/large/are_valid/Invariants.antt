use Rattle.std.proofs.Common.{take}
use Rattle.std.specs.Prelude.{All}
use Rattle.chart_rules.specs.ValidCard.{IsValidCard}
use Rattle.cli_decks.proofs.check_calls.large.are_valid.Given as goal

abbrev pub invariant-loop-card : goal.invariant-loop-card
invariant-loop-card l = All (IsValidCard l.chart) (take l.card-index l.cards)
