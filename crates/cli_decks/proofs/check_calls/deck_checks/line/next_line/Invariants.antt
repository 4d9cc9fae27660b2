use Rattle.cli_decks.specs.CheckCalls.DeckChecks.HelperLines.{HasBegun}
use Rattle.cli_decks.proofs.check_calls.deck_checks.line.next_line.Given as goal

-- the front of the line is kept
abbrev pub invariant-loop : goal.invariant-loop
invariant-loop g l = HasBegun (g.R.Read.remaining l.initial.reader) (g.R.Read.remaining l.reader) l.kept.items
