use Rattle.std.proofs.Common.{◌<◌, ◌∙◌, arith, length, get_or, refl}
use Rattle.std.proofs.lemmas.Bool.{false≢true}
use Rattle.std.proofs.lemmas.List.{take_more}
use Rattle.hubs.proofs.SetupsWords.StopLemmas.{refused, IsTape-push, HasStops-push}
use Rattle.hubs.proofs.setups.tape.Tape.new.Goals as goal

pub returns-then-not-add_stop-clause-made : goal.returns-then-not-add_stop-clause-made
returns-then-not-add_stop-clause-made c =
    let loop = c.loop-channel in (
      λ made. absurd (false≢true made),
      λ tape. absurd
          (refused loop.tape.lines c.args.first c.args.overflow loop.tape c.args.stops.now loop.channel-index (0, 0)
          (omega arith) loop.invariant.has_stops
          (λ stop free. false≢true (c.if-not-add_stop.ensures.could.1 (stop, free)))
          (rw loop.invariant.lines tape)),
    )

pub loop-channel-preserved : goal.loop-channel-preserved
loop-channel-preserved c =
    let hole = get_or c.args.stops.now c.loop-channel.channel-index (0, 0) in
    let old = c.loop-channel.invariant in
    let added = c.if-not-add_stop.ensures.added in
    let could = c.if-not-add_stop.ensures.could.0 refl in
    let within : c.loop-channel.channel-index < length c.args.stops.now = omega arith in
    rw (take_more c.args.stops.now c.loop-channel.channel-index (0, 0) within)
    (record {
      lines = added.lines ∙ old.lines;
      first = added.first ∙ old.first;
      overflow = added.overflow ∙ old.overflow;
      is_tape =
          IsTape-push _ _ _ c.loop-channel.tape _ hole.0 hole.1 old.has_stops old.is_tape (rw old.lines at could.0)
          could.1;
      has_stops = HasStops-push c.loop-channel.tape _ _ hole.0 hole.1 old.has_stops added;
      is_form = c.if-not-add_stop.ensures.form;
    })
