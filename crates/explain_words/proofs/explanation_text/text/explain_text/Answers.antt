use Rattle.explain_words.proofs.explanation_text.text.explain_text.Goals as goal

pub returns-in-Ok-clause-told : goal.returns-in-Ok-clause-told
returns-in-Ok-clause-told c = record { told = c.in-Ok.why.why; is = rw c.into_words.ensures c.in-Ok.ensures.told }
