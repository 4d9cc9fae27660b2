use Rattle.std.specs.Prelude.{◌≡◌, All, map, take}
use Rattle.explain_wheels.specs.ExplanationsWords.Pages.{HasWays, found_of}
use Rattle.explain_wheels.proofs.explanations.page.PageWays.of.Given as goal

-- the lines so far have their ways
abbrev pub invariant-loop-line : goal.invariant-loop-line
invariant-loop-line l = record {
  found : map found_of l.lines.items ≡ take l.line-index l.line-items;
  ways : All (HasWays l.setup) l.lines.items;
}
