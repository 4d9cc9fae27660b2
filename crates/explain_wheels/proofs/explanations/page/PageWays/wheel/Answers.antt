use Rattle.std.proofs.Common.{subst, ℕ}
use Rattle.explain_wheels.specs.ExplanationsWords.Explanations.{IsExplanation}
use Rattle.explain_wheels.proofs.ExplanationsWords.PageLines.{line-found, none-there}
use Rattle.explain_wheels.proofs.explanations.page.PageWays.wheel.Goals as goal

pub returns-in_ok-wheel-in-Some-clause-told : goal.returns-in_ok-wheel-in-Some-clause-told
returns-in_ok-wheel-in-Some-clause-told c deck page is =
    let setup = c.args.setup.now in
    let line = c.in-Some.ways.now in
    let told = c.in_ok-wheel-in-Some.field-0 in
    let here = line-found setup deck page c.args.self.now.lines.items line is c.in-Some.ensures.some in
    subst (λ (l : ℕ). IsExplanation setup deck page l c.args.wheel told) c.in-Some.ensures.numbered
    (subst (λ (p : ℕ). IsExplanation setup deck p line.found.kept.line.line c.args.wheel told) here.1 (c.in_ok-wheel-in-Some.ensures deck here.0).is)

pub returns-in-None-clause-no_line : goal.returns-in-None-clause-no_line
returns-in-None-clause-no_line c deck page is refused =
    none-there c.args.setup.now deck page c.args.line c.args.self.now.lines.items is (c.line.ensures.none c.in-None.is)
