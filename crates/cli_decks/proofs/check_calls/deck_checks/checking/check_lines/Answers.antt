use Rattle.std.proofs.Common.{◌∙◌, sym, subst}
use Rattle.cli_decks.proofs.CheckCalls.DeckChecks.Whole.{begins, ends_told, fine_broken, fine_written}
use Rattle.cli_decks.specs.CheckCalls.DeckChecks.HelperStanding.{GoesOn}
use Rattle.cli_decks.proofs.check_calls.deck_checks.checking.check_lines.Goals as goal

pub loop-listing-init : goal.loop-listing-init
loop-listing-init g c = begins _ _ _ _ _ c.new-standing.ensures.begun c.new-standing.ensures.none c.new-listing.ensures

pub returns-in-Some-clause-ends : goal.returns-in-Some-clause-ends
returns-in-Some-clause-ends g c =
    let ended = subst
    (GoesOn c.args.chart.now (g.R.Read.remaining c.args.reader.now) (g.W.Write.contents c.args.out.now) (g.R.Read.remaining c.step.new.reader)
    (g.W.Write.contents c.step.new.out) c.step.new.standing c.step.new.listing.first)
    c.if-branch.false (c.in_ok-step.ensures.goes_on _ _ c.loop-listing.invariant) in
    ends_told _ _ _ _ _ _ c.in-Some.fault ended (sym c.first.ensures ∙ c.in-Some.is)

pub returns-clause-fine : goal.returns-clause-fine
returns-clause-fine g c =
    let ended = subst
    (GoesOn c.args.chart.now (g.R.Read.remaining c.args.reader.now) (g.W.Write.contents c.args.out.now) (g.R.Read.remaining c.step.new.reader)
    (g.W.Write.contents c.step.new.out) c.step.new.standing c.step.new.listing.first)
    c.if-branch.false (c.in_ok-step.ensures.goes_on _ _ c.loop-listing.invariant) in
    fine_written _ _ _ _ _ _ _ ended (sym c.first.ensures ∙ c.in-None.is) c.tell_fine.result c.tell_fine.ensures.written

pub returns-clause-ends : goal.returns-clause-ends
returns-clause-ends g c =
    let ended = subst
    (GoesOn c.args.chart.now (g.R.Read.remaining c.args.reader.now) (g.W.Write.contents c.args.out.now) (g.R.Read.remaining c.step.new.reader)
    (g.W.Write.contents c.step.new.out) c.step.new.standing c.step.new.listing.first)
    c.if-branch.false (c.in_ok-step.ensures.goes_on _ _ c.loop-listing.invariant) in
    fine_broken _ _ _ _ _ _ _ ended (sym c.first.ensures ∙ c.in-None.is) c.tell_fine.result c.tell_fine.ensures.broken
