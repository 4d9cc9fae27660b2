use Rattle.std.proofs.Common.{refl}
use Rattle.cli_decks.proofs.deck_notes.key_returns.returns.Walk.take.Goals as goal

pub returns : goal.returns
returns c = record {
  kept = λ earlier are. rw (← c.in_ok-broken.ensures.value) (c.in_ok-stood.ensures.kept earlier are);
  listed = λ earlier are. rw (← c.in_ok-broken.ensures.value, ← c.in_ok-stood.ensures.stood earlier are) c.in_ok-add_return.ensures;
  last = refl;
}
