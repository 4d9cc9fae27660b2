use Rattle.std.proofs.Common.{sym, append-nil, []}
use Rattle.std.proofs.lemmas.List.Elements.{All-nil}
use Rattle.machine.specs.Kept.{PlacedInFeed}
use Rattle.explain_wheels.proofs.explanations.lines.feed_unkept.Goals as goal

pub returns-in-Ok-clause-feeds : goal.returns-in-Ok-clause-feeds
returns-in-Ok-clause-feeds c kept = record {
  kept = [];
  gained = sym (append-nil kept);
  feeds = λ wiring net. (c.in-Ok.ensures.lines.lines, c.in-Ok.ensures.lines.feeds wiring net);
  placed = λ wiring net. All-nil (PlacedInFeed wiring c.args.machine.now.machine c.args.next);
}
