use Rattle.std.proofs.Common.{◌∙◌}
use Rattle.explain_words.proofs.ExplanationText.Asking.{leads, wired}
use Rattle.explain_words.proofs.explanation_text.asked.leads_on.Goals as goal

pub returns-in-Some : goal.returns-in-Some
returns-in-Some c =
    wired c.args.setup.now c.args.hub c.in-Some.next.now c.has.result c.has.ensures.value
    ∙ leads c.args.setup.now c.args.hub c.in-Some.next.now c.args.others.now c.in-Some.ensures.value
