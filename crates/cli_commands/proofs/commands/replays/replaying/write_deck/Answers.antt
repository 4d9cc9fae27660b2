use Rattle.std.proofs.Common.{sym, subst}
use Rattle.cli_commands.proofs.CommandsWords.DeckReplays.Ending.{ended_badly, ended_well, failed, stopped}
use Rattle.cli_commands.specs.CommandsWords.DeckReplays.Replays.{GainsFront}
use Rattle.cli_commands.proofs.commands.replays.replaying.write_deck.Goals as goal

pub returns-in-Ok-end-clause-pages : goal.returns-in-Ok-end-clause-pages
returns-in-Ok-end-clause-pages g c =
    let ran = c.in-Ok.ensures.run in
    ended_well g.S.Sink.held g.S.Sink.has_failed c.args.setup.now c.args.deck.now ran.0 ran.1 c.requires.form c.args.pages.now
    c.requires.unbegun c.print_deck.new.pages ran.2 c.end.new.self c.in-Ok-end.ensures.bytes c.in-Ok-end.ensures.all

pub returns-in-Err-end-clause-front : goal.returns-in-Err-end-clause-front
returns-in-Err-end-clause-front g c =
    let ran = c.in-Ok.ensures.run in
    ended_badly g.S.Sink.held g.S.Sink.has_failed c.args.setup.now c.args.deck.now ran.0 ran.1 c.requires.form c.args.pages.now
    c.requires.unbegun c.print_deck.new.pages ran.2 c.end.new.self c.in-Err-end.fault c.in-Err-end.ensures.bytes.0
    c.in-Err-end.ensures.bytes.1

pub returns-in-Err-clause-front : goal.returns-in-Err-clause-front
returns-in-Err-clause-front g c =
    let ran = c.in-Err.ensures.run in
    subst (λ written. GainsFront c.args.setup.now c.args.deck.now written (g.S.Sink.held c.args.pages.now.out.sink)
    (g.S.Sink.held c.print_deck.new.pages.out.sink)) (sym c.written-written.ensures)
    (stopped g.S.Sink.held g.S.Sink.has_failed c.args.setup.now c.args.deck.now ran.0 ran.1 c.requires.form c.args.pages.now
    c.requires.unbegun c.print_deck.new.pages ran.2)

pub returns-in-Err-clause-failed : goal.returns-in-Err-clause-failed
returns-in-Err-clause-failed g c =
    let ran = c.in-Err.ensures.run in
    failed g.S.Sink.held g.S.Sink.has_failed c.args.setup.now c.args.deck.now ran.0 ran.1 c.requires.form c.args.pages.now
    c.requires.unbegun c.print_deck.new.pages ran.2
