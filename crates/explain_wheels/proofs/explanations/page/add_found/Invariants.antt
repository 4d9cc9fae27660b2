use Rattle.std.specs.Prelude.{◌≡◌, ◌++◌, map, take}
use Rattle.explain_wheels.specs.ExplanationsWords.PageFeeds.{found_by}
use Rattle.explain_wheels.proofs.explanations.page.add_found.Given as goal

-- the cycles so far are added
abbrev pub invariant-loop-cycle : goal.invariant-loop-cycle
invariant-loop-cycle l = l.found.items ≡ l.fn.found.items ++ map (found_by l.cards) (take l.cycle-index l.kept)
