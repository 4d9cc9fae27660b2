use Rattle.std.proofs.Common.{◌∙◌, ◌-◌, arith, refl, sym, false, true}
use Rattle.std.proofs.lemmas.Bool.Decides.{nat_tests}
use Rattle.explain_wheel_ledgers.specs.Figures.{digit_to}
use Rattle.explain_wheel_ledgers.proofs.Wires.{digit-more}
use Rattle.explain_wheel_ledgers.proofs.figures.+digit_to.Goals as goal

pub returns-then-is_wired : goal.returns-then-is_wired
returns-then-is_wired t c =
    let some = c.if-positions-eq0.false in
    c.if-is_wired.true
    ∙ digit-more c.args.setup.now c.args.group c.args.wheel c.args.positions (c.args.positions - 1) true
    (digit_to c.args.setup.now c.args.group c.args.wheel (c.args.positions - 1)) (grind (arith, nat_tests, some)) refl
    (sym c.if-is_wired.true ∙ c.is_wired.ensures) refl

pub returns-else-is_wired : goal.returns-else-is_wired
returns-else-is_wired t c =
    let some = c.if-positions-eq0.false in
    digit-more c.args.setup.now c.args.group c.args.wheel c.args.positions (c.args.positions - 1) false c.digit_to.result
    (grind (arith, nat_tests, some)) refl (sym c.if-is_wired.false ∙ c.is_wired.ensures) c.digit_to.ensures
