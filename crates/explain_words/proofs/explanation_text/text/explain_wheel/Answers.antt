use Rattle.std.proofs.Common.{◌≡◌, sym, subst, Option}
use Rattle.std.specs.Prelude.{IfSome}
use Rattle.std.specs.String.{string_bytes}
use Rattle.explain_wheels.specs.ExplanationsWords.PlacedInRun.{IsFound}
use Rattle.explain_wheels.specs.declared.explanations.found.FoundLine.{FoundLine}
use Rattle.explain_words.proofs.ExplanationText.Places.{explained_there}
use Rattle.explain_words.proofs.explanation_text.text.explain_wheel.Goals as goal

pub returns-clause-told : goal.returns-clause-told
returns-clause-told c =
    let setup = c.args.setup.now in
    let deck = c.args.cards.now in
    let found = c.in-Some.found in
    let clauses = c.in_ok-found.ensures in
    let is = subst (λ (f : Option FoundLine). IfSome f (IsFound setup deck)) c.in-Some.is clauses.found in
    let at_page = subst (λ (f : Option FoundLine). IfSome f (λ f. f.kept.line.page ≡ c.args.page)) c.in-Some.is clauses.page in
    let at_line = subst (λ (f : Option FoundLine). IfSome f (λ f. f.kept.line.line ≡ c.args.line)) c.in-Some.is clauses.line in
    let same = c.in_ok-ways.ensures.line in
    explained_there setup c.args.asked.now deck c.in_ok-ways.ways.found found c.args.page c.args.line c.args.wheel
    c.in_ok-told_wheel.field-0.why (string_bytes c.in_ok-told_wheel.field-0.words) same at_page at_line
    (c.in_ok-told_wheel.ensures deck (subst (IsFound setup deck) (sym same) is))
