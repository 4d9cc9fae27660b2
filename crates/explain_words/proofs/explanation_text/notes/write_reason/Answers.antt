use Rattle.std.proofs.Common.{◌≡◌, ◌∙◌, sym, subst, ◌++◌, append_assoc, codes, decimal}
use Rattle.std.specs.Prelude.{OnOk}
use Rattle.std.specs.String.{string_bytes}
use Rattle.hubs.specs.declared.hub.Hub.{Hub}
use Rattle.explain_words.specs.ExplanationText.Notes.{reason_words}
use Rattle.explain_words.proofs.ExplanationText.Gains.{where_ok}
use Rattle.explain_words.proofs.explanation_text.notes.write_reason.Goals as goal

pub returns-in-IX : goal.returns-in-IX
returns-in-IX c =
    let old = string_bytes c.args.text.now in
    let new = string_bytes c.push_numbered.new.text in
    let words = codes ": the card is the first of a group of level " in
    let level = decimal c.in-IX.level in
    subst (λ (exit : Hub). OnOk c.push_numbered.result (new ≡ old ++ reason_words exit)) (sym c.in-IX.is)
    (where_ok (new ≡ old ++ words ++ level) (new ≡ old ++ (words ++ level)) c.push_numbered.result (λ is. is ∙ append_assoc old words level)
    c.push_numbered.ensures)

pub returns-in-CSD : goal.returns-in-CSD
returns-in-CSD c =
    subst
    (λ (exit : Hub). OnOk c.push_between-in-CSD.result (string_bytes c.push_between-in-CSD.new.text ≡ string_bytes c.args.text.now ++ reason_words exit))
    (sym c.in-CSD.is) c.push_between-in-CSD.ensures

pub returns-in-CSZ : goal.returns-in-CSZ
returns-in-CSZ c =
    subst
    (λ (exit : Hub). OnOk c.push_between-in-CSZ.result (string_bytes c.push_between-in-CSZ.new.text ≡ string_bytes c.args.text.now ++ reason_words exit))
    (sym c.in-CSZ.is) c.push_between-in-CSZ.ensures
