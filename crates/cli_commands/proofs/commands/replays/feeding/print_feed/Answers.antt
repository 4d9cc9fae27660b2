use Rattle.std.proofs.Common.{◌∙◌, sym, subst, refl, List}
use Rattle.std.proofs.lemmas.Result.{err_from_is_err_and}
use Rattle.report_writer.specs.Added.{added_all}
use Rattle.report_writer.specs.Outgoing.{Breaks}
use Rattle.page_text.specs.PlacedLines.InOrder.{FollowInOrder}
use Rattle.page_text.specs.declared.placed_lines.placed_line.PlacedLine.{PlacedLine}
use Rattle.cli_commands.specs.CommandsWords.DeckReplays.HelperFeeding.{StopsInFeed, broken, refused}
use Rattle.cli_commands.specs.declared.commands.replays.fault.ReplayCause.{ReplayCause}
use Rattle.cli_commands.proofs.commands.replays.feeding.print_feed.Goals as goal

pub returns-in_err-feed-clause-done : goal.returns-in_err-feed-clause-done
returns-in_err-feed-clause-done g c =
    let exit = err_from_is_err_and c.from_residual.result c.from_residual.ensures.1 in
    rw exit.1
    (subst (λ (stopped : ReplayCause). StopsInFeed g.S.Sink.held g.S.Sink.has_failed c.args.machine.now c.args.next.now c.args.pages.now
    c.args.pages.now stopped) (sym (exit.2 ∙ c.in_err-feed.ensures.refused)) (refused refl))

pub add_all-requires : goal.add_all-requires
add_all-requires g c =
    let gains = c.in_ok-feed.ensures.lines in
    let pages = c.args.pages.now in
    subst (λ (lines : List PlacedLine). FollowInOrder pages.form_lines pages.page pages.line lines)
    (sym (c.as_slice.ensures.value ∙ gains.gained))
    (c.requires.order c.feed.new.machine.machine gains.lines (gains.feeds c.requires.wiring c.requires.net))

pub returns-in-Err-clause-done : goal.returns-in-Err-clause-done
returns-in-Err-clause-done g c =
    let gains = c.in_ok-feed.ensures.lines in
    let pages = c.args.pages.now in
    broken c.feed.new.machine.machine gains.lines gains.feeds
    (subst (λ (lines : List PlacedLine). Breaks g.S.Sink.held g.S.Sink.has_failed (added_all pages.form_lines pages.page pages.line lines) pages.out
    c.add_all.new.self.out) (c.as_slice.ensures.value ∙ gains.gained) c.in-Err.ensures.bytes.1)
