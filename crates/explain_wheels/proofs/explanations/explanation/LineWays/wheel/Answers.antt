use Rattle.std.proofs.Common.{sym, subst, refl, List}
use Rattle.explain_wheels.specs.WaysWords.Tables.{WayTable}
use Rattle.explain_wheels.specs.ExplanationsWords.Rows.{AreRowWays}
use Rattle.explain_wheels.proofs.ExplanationsWords.Told.{explained}
use Rattle.explain_wheels.proofs.explanations.explanation.LineWays.wheel.Goals as goal

pub returns : goal.returns
returns c deck is =
    let found = c.args.self.now.found in
    let ways =
    subst (λ (w : List WayTable). AreRowWays c.args.setup.now found.kept.points 12 w) (sym c.deref-2.ensures.value) c.requires.ways in
    explained c.args.setup.now deck found c.args.wheel c.requires.range.0 c.requires.range.1 is c.in_ok-rows.rows c.in_ok-rows.ensures
    c.significance_of.result (λ pictures are. c.significance_of.ensures found.kept.points pictures ways are) _ refl
