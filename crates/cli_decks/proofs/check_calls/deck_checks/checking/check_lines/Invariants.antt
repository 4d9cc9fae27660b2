use Rattle.std.proofs.Common.{◌-◌}
use Rattle.cli_decks.specs.CheckCalls.DeckChecks.HelperStanding.{Stands}
use Rattle.cli_decks.proofs.check_calls.deck_checks.checking.check_lines.Given as goal

abbrev pub invariant-loop-listing : goal.invariant-loop-listing
invariant-loop-listing g l =
    Stands l.chart (g.R.Read.remaining l.initial.reader) (g.W.Write.contents l.initial.out) (g.R.Read.remaining l.reader)
    (g.W.Write.contents l.out) l.standing l.listing.first

abbrev pub decreases-loop-listing : goal.decreases-loop-listing
decreases-loop-listing g l = 1000000 - l.standing.count
