use Rattle.std.proofs.Common.{drop, ◌≡◌}
use Rattle.cli_matching.specs.MatchDecks.Wheels.{text_at}
use Rattle.cli_matching.proofs.match_decks.wheels.text_at.Given as goal

abbrev pub invariant-loop-placed : goal.invariant-loop-placed
invariant-loop-placed l = text_at (drop l.placed-index l.lines) l.place ≡ text_at l.lines l.place
