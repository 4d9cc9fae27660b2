use Rattle.std.specs.Prelude.{◌≡◌, All, take}
use Rattle.explain_wheels.specs.declared.explanations.explanation.LineWays.{LineWays}
use Rattle.explain_wheels.proofs.explanations.page.PageWays.line.Given as goal

-- the lines so far have other numbers
abbrev pub invariant-loop-ways : goal.invariant-loop-ways
invariant-loop-ways l = All (λ (w : LineWays). w.found.kept.line.line ≡ l.line → ⊥) (take l.ways-index l.self.lines.items)
