use Rattle.std.proofs.Common.{subst, ℕ}
use Rattle.std.specs.String.{string_bytes}
use Rattle.explain_words.specs.ExplanationText.ExplanationTexts.{Explains}
use Rattle.explain_wheels.proofs.ExplanationsWords.PageLines.{line-found, line-has-ways, none-there}
use Rattle.explain_words.proofs.explanation_text.page.page_wheel_text.Goals as goal

pub returns-clause-told : goal.returns-clause-told
returns-clause-told c deck number is =
    let setup = c.args.setup.now in
    let asked = c.args.asked.now in
    let line = c.in-Some.ways.now in
    let text = string_bytes c.into_words.result in
    let here = line-found setup deck number c.args.page.now.lines.items line is c.in-Some.ensures.some in
    subst (λ (l : ℕ). Explains setup asked deck number l c.args.wheel text) c.in-Some.ensures.numbered
    (subst (λ (p : ℕ). Explains setup asked deck p line.found.kept.line.line c.args.wheel text) here.1
    (record {
      told = c.in_ok-told_wheel.field-0.why;
      is = rw c.into_words.ensures (c.in_ok-told_wheel.ensures deck here.0);
    }))

pub told_wheel-requires-clause-found : goal.told_wheel-requires-clause-found
told_wheel-requires-clause-found c =
    let some = c.requires in (
      some.deck,
      (line-found c.args.setup.now some.deck some.page c.args.page.now.lines.items c.in-Some.ways.now some.is
          c.in-Some.ensures.some).0,
    )

pub told_wheel-requires-clause-ways : goal.told_wheel-requires-clause-ways
told_wheel-requires-clause-ways c =
    line-has-ways c.args.setup.now c.args.page.now.lines.items c.in-Some.ways.now c.requires c.in-Some.ensures.some

pub returns-in_default-clause-no_line : goal.returns-in_default-clause-no_line
returns-in_default-clause-no_line c deck number is refused =
    none-there c.args.setup.now deck number c.args.line c.args.page.now.lines.items is (c.line.ensures.none c.in_default.is)
