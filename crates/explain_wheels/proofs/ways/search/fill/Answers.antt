use Rattle.std.proofs.Common.{◌≡◌, refl, arith}
use Rattle.explain_wheels.proofs.WaysWords.Passes.{IsPass-one}
use Rattle.explain_wheels.proofs.ways.search.fill.Goals as goal

pub returns : goal.returns
returns c =
    let long = c.told-steps in
    let low = c.requires.to in
    IsPass-one c.args.level c.args.to (λ h. h ≡ c.args.to) c.args.steps.now (omega (arith, long, low)) c.if-steps-to-ne0.false refl
    (λ h led. led)
