use Rattle.explain_wheels.proofs.explanations.lines.feed_kept.Goals as goal

pub returns-in-Ok-clause-feeds : goal.returns-in-Ok-clause-feeds
returns-in-Ok-clause-feeds c = let gains = c.in-Ok.ensures.kept in record {
  kept = gains.kept;
  gained = gains.gained;
  feeds = λ wiring net. let feed = gains.feeds wiring net in (feed.lines, feed.feeds);
  placed = λ wiring net. (gains.feeds wiring net).placed;
}
