use Rattle.std.proofs.Common.{◌∙◌, sym, ap, arith, option_map}
use Rattle.report_misfits.specs.ToldMisfits.{told}
use Rattle.report_misfits.proofs.InPlace.{first_at_level}
use Rattle.report_misfits.proofs.open_total.first_misfit_to.Goals as goal

pub returns-in-Some : goal.returns-in-Some
returns-in-Some c =
    let within = c.loop-level-test.true in
    first_at_level c.args.totals.now c.args.card c.loop-level.level c.args.ended (told c.in-Some.misfit) c.loop-level.auto.level
    (omega (arith, within))
    c.loop-level.invariant
    (sym (ap (option_map told) c.in-Some.is) ∙ c.first_misfit_at.ensures)
