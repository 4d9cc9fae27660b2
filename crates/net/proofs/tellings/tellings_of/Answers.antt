use Rattle.std.proofs.Common.{arith}
use Rattle.net.proofs.TellingLemmas.{Tellings-first, Tellings-more}
use Rattle.net.proofs.tellings.tellings_of.Goals as goal

pub loop-place-init : goal.loop-place-init
loop-place-init c = Tellings-first c.args.rows.now _ c.new-tellings.ensures.items

pub loop-place-preserved : goal.loop-place-preserved
loop-place-preserved c =
    Tellings-more c.args.rows.now c.loop-place.place c.loop-place.tellings.items _ _ c.in_ok-push.ensures.items
    c.in_ok-telling_of.ensures c.loop-place.invariant

pub returns : goal.returns
returns c =
    let long = c.loop-place.invariant.long in
    record {
      long = omega (arith, long);
      each = λ kind d low. c.loop-place.invariant.each kind d (omega (arith, long, low));
    }
