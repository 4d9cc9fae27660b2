use Rattle.std.proofs.Common.{◌∙◌, ◌-◌, arith, refl, sym, false}
use Rattle.std.proofs.lemmas.Bool.Decides.{nat_tests}
use Rattle.explain_origins.proofs.Texts.{others-more}
use Rattle.explain_origins.proofs.levels.+others_lead.Goals as goal

pub returns-else-is_led_from : goal.returns-else-is_led_from
returns-else-is_led_from t c =
    let some = c.if-count-eq0.false in
    others-more c.args.setup.now c.args.entry c.args.count (c.args.count - 1) false c.others_lead.result (grind (arith, nat_tests, some)) refl
    (sym c.if-is_led_from.false ∙ c.is_led_from.ensures) c.others_lead.ensures
