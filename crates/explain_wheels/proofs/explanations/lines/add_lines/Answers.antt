use Rattle.std.proofs.Common.{arith}
use Rattle.explain_wheels.proofs.ExplanationsWords.LineFeeding.{found-more}
use Rattle.explain_wheels.proofs.explanations.lines.add_lines.Goals as goal

pub loop-place-preserved : goal.loop-place-preserved
loop-place-preserved c =
    let low = c.loop-place-test.true in
    let within = c.requires.within in
    let end = c.loop-place.auto.place-end in
    found-more c.args.setup.now c.args.cards.now c.args.lines.now c.loop-place.place _ c.loop-place.found.items c.push.new.self.items
    c.in_ok-one.one (omega (arith, low, within, end)) c.loop-place.invariant c.in_ok-one.ensures c.in_ok-push.ensures.items
