use Rattle.std.proofs.Common.{IsTrue, ap, subst, sym, ◌↔◌, ◌∙◌}
use Rattle.match_panels.specs.DifferencesWords.PanelProgress.Forms.{same_form}
use Rattle.hubs.specs.SetupsWords.Wiring.{IsSameSetup}
use Rattle.match_panels.proofs.DifferencesWords.Same.{same-tells}
use Rattle.match_panels.proofs.differences.alike.is_same.Goals as goal

pub returns : goal.returns
returns c =
    let form =
    c.is_same_form-same_form.ensures ∙ ap (λ tape. same_form tape c.tape-2.result.now) c.tape.ensures.value
    ∙ ap (same_form c.args.one.now.tape) c.tape-2.ensures.value in
    subst (λ b. IsTrue b ↔ IsSameSetup c.args.one.now c.args.other.now) (sym c.has_none.ensures)
    (same-tells c.args.one.now c.args.other.now c.args.missing.now c.args.extra.now c.is_same_form-same_form.result
    c.size-missing.result c.size-extra.result c.requires.missing c.requires.extra c.size-missing.ensures.size c.size-extra.ensures.size form)
