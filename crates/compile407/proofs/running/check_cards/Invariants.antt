use Rattle.std.proofs.Common.{All, take}
use Rattle.chart_rules.specs.ValidCard.{IsValidCard}
use Rattle.compile407.proofs.running.check_cards.Given as goal

abbrev pub invariant-loop-place : goal.invariant-loop-place
invariant-loop-place l = All (IsValidCard l.chart) (take l.place l.cards)
