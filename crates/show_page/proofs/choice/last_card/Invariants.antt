use Rattle.std.specs.Prelude.{◌≡◌, drop}
use Rattle.show_page.specs.Choice.{last_card}
use Rattle.show_page.proofs.choice.last_card.Given as goal

-- the card of the lines so far
abbrev pub invariant-loop-one : goal.invariant-loop-one
invariant-loop-one l = last_card l.last (drop l.one-index l.found) ≡ last_card l.card l.found
