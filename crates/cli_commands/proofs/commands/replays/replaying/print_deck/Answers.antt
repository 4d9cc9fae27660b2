use Rattle.std.proofs.Common.{◌∙◌, sym, subst, refl, Some, None, []}
use Rattle.std.proofs.lemmas.Result.{err_from_is_err_and}
use Rattle.cli_commands.proofs.CommandsWords.DeckReplays.InText.{before_card, before_end, in_text_at_start, in_text_on}
use Rattle.cli_commands.proofs.CommandsWords.DeckReplays.Standing.{closes, come_next, stops_at_start, stops_in_feed}
use Rattle.cli_commands.specs.CommandsWords.DeckReplays.HelperStanding.{Stops}
use Rattle.cli_commands.specs.declared.commands.replays.fault.ReplayCause.{ReplayCause}
use Rattle.cli_commands.proofs.commands.replays.replaying.print_deck.Goals as goal

pub returns-in_err-machine-clause-run : goal.returns-in_err-machine-clause-run
returns-in_err-machine-clause-run g c =
    let cards = c.requires.deck.cards in
    let exit = err_from_is_err_and c.from_residual.result c.from_residual.ensures.1 in
    rw exit.1 (
      cards,
      c.requires.deck.deck,
      subst (λ (stopped : ReplayCause). Stops g.S.Sink.held g.S.Sink.has_failed c.args.setup.now cards c.args.pages.now.out c.args.pages.now stopped)
          (sym exit.2) (stops_at_start g.S.Sink.held c.args.setup.now cards g.S.Sink.has_failed c.args.pages.now),
    )

pub loop-next-init : goal.loop-next-init
loop-next-init g c = record {
  place = in_text_at_start g.S.Sink.held c.args.setup.now c.args.deck.now c.requires.deck c.in_ok-machine.machine c.args.pages.now
      c.in_ok-machine.ensures c.requires.unbegun;
  same = refl;
}

pub print_feed-requires : goal.print_feed-requires
print_feed-requires g c =
    let place = c.loop-next.invariant.place in
    let first = c.in-Some.ensures.first in
    come_next g.S.Sink.held c.args.setup.now place.cards c.requires.form place.punched.few c.args.pages.now.out (Some _) first.others
    c.loop-next.machine c.loop-next.pages
    (before_card g.S.Sink.held c.args.setup.now c.args.deck.now c.args.pages.now.out c.loop-next.text.now c.loop-next.machine c.loop-next.pages
    place _ _ first)

pub returns-in_err-print_feed-clause-run : goal.returns-in_err-print_feed-clause-run
returns-in_err-print_feed-clause-run g c =
    let place = c.loop-next.invariant.place in
    let first = c.in-Some.ensures.first in
    let exit = err_from_is_err_and c.from_residual-in_err-print_feed.result c.from_residual-in_err-print_feed.ensures.1 in
    rw exit.1 (
      place.cards,
      place.punched,
      subst (λ (stopped : ReplayCause). Stops g.S.Sink.held g.S.Sink.has_failed c.args.setup.now place.cards c.args.pages.now.out
          c.print_feed.new.pages stopped) (sym exit.2)
          (stops_in_feed g.S.Sink.held c.args.setup.now place.cards c.requires.form place.punched.few c.args.pages.now.out (Some _) first.others
          c.loop-next.machine c.loop-next.pages
          (before_card g.S.Sink.held c.args.setup.now c.args.deck.now c.args.pages.now.out c.loop-next.text.now c.loop-next.machine
          c.loop-next.pages place _ _ first) g.S.Sink.has_failed c.print_feed.new.pages c.in_err-print_feed.ensures.done),
    )

pub loop-next-preserved : goal.loop-next-preserved
loop-next-preserved g c =
    record {
      place = in_text_on g.S.Sink.held c.args.setup.now c.args.deck.now c.args.pages.now.out c.loop-next.text.now c.loop-next.machine
          c.loop-next.pages c.loop-next.invariant.place c.requires.form _ _ c.in-Some.ensures.first c.print_feed.new.machine
          c.print_feed.new.pages c.in_ok-print_feed.ensures.done;
      same = c.in_ok-print_feed.ensures.same ∙ c.loop-next.invariant.same;
    }

pub print_feed-requires-2 : goal.print_feed-requires-2
print_feed-requires-2 g c =
    let place = c.loop-next.invariant.place in
    come_next g.S.Sink.held c.args.setup.now place.cards c.requires.form place.punched.few c.args.pages.now.out None [] c.loop-next.machine
    c.loop-next.pages
    (before_end g.S.Sink.held c.args.setup.now c.args.deck.now c.args.pages.now.out c.loop-next.text.now c.loop-next.machine c.loop-next.pages
    place c.in_default.ensures.none)

pub returns-clause-run : goal.returns-clause-run
returns-clause-run g c =
    let place = c.loop-next.invariant.place in (
      place.cards,
      place.punched,
      closes g.S.Sink.held c.args.setup.now place.cards c.requires.form place.punched.few g.S.Sink.has_failed c.args.pages.now.out
          c.loop-next.machine c.print_feed-2.new.machine c.loop-next.pages c.print_feed-2.new.pages
          (before_end g.S.Sink.held c.args.setup.now c.args.deck.now c.args.pages.now.out c.loop-next.text.now c.loop-next.machine
          c.loop-next.pages place c.in_default.ensures.none) c.print_feed-2.result c.print_feed-2.ensures.done,
    )
