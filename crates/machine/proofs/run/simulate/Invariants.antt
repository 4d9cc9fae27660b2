use Rattle.std.proofs.Common.{drop}
use Rattle.machine.proofs.Decks.{Ran}
use Rattle.machine.proofs.run.simulate.Given as goal

-- the cards so far are fed, and their lines stand
abbrev pub invariant-loop-card : goal.invariant-loop-card
invariant-loop-card l = Ran l.setup l.cards (drop l.card-index l.cards) l.units l.lines.items
