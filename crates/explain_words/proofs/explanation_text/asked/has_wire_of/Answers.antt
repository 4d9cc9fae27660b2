use Rattle.std.proofs.Common.{◌∙◌, sym}
use Rattle.explain_words.proofs.ExplanationText.Asking.{way_found, way_last, way_more}
use Rattle.explain_words.proofs.explanation_text.asked.has_wire_of.Goals as goal

pub loop-step-preserved : goal.loop-step-preserved
loop-step-preserved c =
    way_more c.args.setup.now c.args.way.now c.loop-step.step _ _ c.loop-step-test.true c.loop-step.invariant
    (sym c.leads_on.ensures ∙ c.if-leads_on.false)

pub returns-then-leads_on : goal.returns-then-leads_on
returns-then-leads_on c =
    way_found c.args.setup.now c.args.way.now c.loop-step.step _ _ c.loop-step-test.true c.loop-step.invariant
    (sym c.leads_on.ensures ∙ c.if-leads_on.true)

pub returns : goal.returns
returns c = way_last c.args.setup.now c.args.way.now c.loop-step.step _ c.loop-step-test.false c.loop-step.invariant
