use Rattle.std.specs.Prelude.{◌≡◌}
use Rattle.explain_wheels.proofs.ExplanationsWords.PageFeeding.{HasFound}
use Rattle.explain_wheels.proofs.explanations.page.find_page.Given as goal

-- the cards so far are fed, and their lines on the page are found
abbrev pub invariant-loop-card : goal.invariant-loop-card
invariant-loop-card l = record {
  found : HasFound l.setup l.cards l.page l.card-index l.machine l.found.items;
  counted : l.fed ≡ l.card-index;
}
