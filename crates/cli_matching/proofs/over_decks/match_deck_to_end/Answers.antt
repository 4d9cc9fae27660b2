use Rattle.std.proofs.Common.{refl}
use Rattle.cli_matching.proofs.TellingOver.{over_device, over_memory, over_status, over_unmatched}
use Rattle.cli_matching.proofs.over_decks.match_deck_to_end.Goals as goal

pub returns-in-Err-clause-unmatched : goal.returns-in-Err-clause-unmatched
returns-in-Err-clause-unmatched g c =
    over_unmatched c.args.chart.now c.args.wiring.now (g.R.Read.remaining c.args.deck) c.in-Err.told _ _ _ _
    c.tell_unmatched.result.status c.tell_unmatched.result.is_told (g.V.Write.contents c.args.faults.now)
    (g.V.Write.contents c.tell_unmatched.new.faults) c.in-Err.ensures.stopped c.tell_unmatched.ensures.status
    c.tell_unmatched.ensures.line refl

pub returns-in-Err-clause-device : goal.returns-in-Err-clause-device
returns-in-Err-clause-device g c =
    over_device c.args.chart.now c.args.wiring.now (g.R.Read.remaining c.args.deck) c.in-Err.told _ _ _ _
    c.tell_unmatched.result.status c.tell_unmatched.result.is_told (g.V.Write.contents c.args.faults.now)
    (g.V.Write.contents c.tell_unmatched.new.faults) c.in-Err.ensures.stopped c.tell_unmatched.ensures.status
    c.tell_unmatched.ensures.line refl

pub returns-in-Err-clause-memory : goal.returns-in-Err-clause-memory
returns-in-Err-clause-memory g c =
    over_memory c.args.chart.now c.args.wiring.now (g.R.Read.remaining c.args.deck) c.in-Err.told _ _ _ _
    c.tell_unmatched.result.status c.tell_unmatched.result.is_told (g.V.Write.contents c.args.faults.now)
    (g.V.Write.contents c.tell_unmatched.new.faults) c.in-Err.ensures.stopped c.tell_unmatched.ensures.status
    c.tell_unmatched.ensures.line refl

pub returns-in-Err-clause-statuses : goal.returns-in-Err-clause-statuses
returns-in-Err-clause-statuses g c =
    over_status c.args.chart.now c.args.wiring.now (g.R.Read.remaining c.args.deck) c.in-Err.told _ _ _ _
    c.tell_unmatched.result.status c.tell_unmatched.result.is_told (g.V.Write.contents c.args.faults.now)
    (g.V.Write.contents c.tell_unmatched.new.faults) c.in-Err.ensures.stopped c.tell_unmatched.ensures.status
    c.tell_unmatched.ensures.line refl
