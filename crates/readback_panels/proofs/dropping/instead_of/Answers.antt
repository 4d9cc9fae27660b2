use Rattle.readback_panels.proofs.dropping.instead_of.Goals as goal

pub returns-in-Form : goal.returns-in-Form
returns-in-Form c = λ draft is. c.lawful_form.ensures draft
