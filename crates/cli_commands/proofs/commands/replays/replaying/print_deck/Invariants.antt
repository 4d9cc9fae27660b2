use Rattle.std.proofs.Common.{◌≡◌, length}
use Rattle.cli_commands.specs.CommandsWords.DeckReplays.HelperStanding.{StandsInText}
use Rattle.cli_commands.proofs.commands.replays.replaying.print_deck.Given as goal

abbrev pub invariant-loop-next : goal.invariant-loop-next
invariant-loop-next g l = record {
  place : StandsInText g.S.Sink.held l.setup l.deck l.text l.initial.pages.out l.machine l.pages;
  same : g.S.Sink.borrow l.pages.out.sink ≡ g.S.Sink.borrow l.initial.pages.out.sink;
}

abbrev pub decreases-loop-next : goal.decreases-loop-next
decreases-loop-next g l = length l.text
