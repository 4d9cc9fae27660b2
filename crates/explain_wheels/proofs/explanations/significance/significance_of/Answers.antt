use Rattle.std.proofs.Common.{sym}
use Rattle.explain_wheels.proofs.explanations.significance.significance_of.Goals as goal

pub returns-in-Some : goal.returns-in-Some
returns-in-Some c points pictures are seen =
    (sym c.if-not-has_zero_control.ensures, c.in-Some.ensures points pictures are seen)
