use Rattle.std.proofs.Common.{refl, subst}
use Rattle.wiring_lines.specs.LineWires.HelperAdds.{Adds}
use Rattle.match_panels.specs.DifferencesWords.Helper.{LacksTo}
use Rattle.match_panels.proofs.DifferencesWords.Joined.{not_there, on_ok}
use Rattle.match_panels.proofs.DifferencesWords.Wires.{to-lacking, to-nowhere, to-there}
use Rattle.match_panels.proofs.differences.between.add_to.Goals as goal

pub returns-in_default : goal.returns-in_default
returns-in_default c =
    subst (λ n. Adds (LacksTo c.args.other.now c.args.exit n) c.args.left.now c.args.left.now) c.from.ensures
    (to-nowhere c.in_default.ensures.found)

pub returns-then-has : goal.returns-then-has
returns-then-has c =
    subst (λ n. Adds (LacksTo c.args.other.now c.args.exit n) c.args.left.now c.args.left.now) c.from.ensures
    (to-there c.in-Some.entry c.in-Some.ensures.found (c.if-has.ensures.value.0 refl))

pub returns : goal.returns
returns c =
    on_ok c.connect.result _ _
    (λ added. subst (λ n. Adds (LacksTo c.args.other.now c.args.exit n) c.args.left.now c.connect.new.left) c.from.ensures
    (to-lacking c.in-Some.entry c.in-Some.ensures.numbered c.in-Some.ensures.found (not_there c.if-has.ensures.value) added))
    c.connect.ensures
