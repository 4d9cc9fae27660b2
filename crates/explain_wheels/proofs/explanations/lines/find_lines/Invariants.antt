use Rattle.std.specs.Prelude.{◌≡◌, ◌≤◌, length}
use Rattle.explain_wheels.specs.ExplanationsWords.LineFeeds.{AreFoundTo}
use Rattle.explain_wheels.proofs.ExplanationsWords.LineFeeding.{IsCounted, IsFedTo}
use Rattle.explain_wheels.proofs.explanations.lines.find_lines.Given as goal

-- the cards so far are fed to both machines, and the lines so far are found
abbrev pub invariant-loop-card : goal.invariant-loop-card
invariant-loop-card l = record {
  ahead : IsCounted l.card-index l.ahead;
  machine : IsCounted l.card-index l.machine;
  run : IsFedTo l.setup l.cards l.card-index l.machine;
  counted : l.fed ≡ l.card-index;
  within : l.at ≤ length l.lines;
  found : AreFoundTo l.setup l.cards l.lines l.at l.found.items;
}
