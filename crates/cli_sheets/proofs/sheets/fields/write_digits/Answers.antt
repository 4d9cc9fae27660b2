use Rattle.std.proofs.Common.{◌≡◌, ◌∙◌, ◌-◌, ◌++◌, [], ◌∷◌, ap, sym, arith, append-nil, ℕ, map}
use Rattle.report_definition.specs.Edits.{figure, last_digits}
use Rattle.cli_sheets.proofs.SheetsWords.Digits.{digit-more}
use Rattle.cli_sheets.proofs.sheets.fields.write_digits.Goals as goal

pub loop-place-preserved : goal.loop-place-preserved
loop-place-preserved c =
    digit-more (c.args.text.now.items ++ map figure (last_digits c.args.count c.args.number)) c.loop-place.text.items c.push.new.self.items
    c.args.number (c.loop-place.place - 1) c.loop-place.place (omega arith) c.loop-place.invariant
    (c.in_ok-push.ensures.items ∙ ap (λ (d : ℕ). c.loop-place.text.items ++ d ∷ []) c.digit_at.ensures)

pub returns : goal.returns
returns c =
    let none : c.loop-place.place ≡ 0 = omega (arith, c.loop-place-test.false) in
    sym (append-nil c.loop-place.text.items)
    ∙ sym (ap (λ (n : ℕ). c.loop-place.text.items ++ map figure (last_digits n c.args.number)) none)
    ∙ c.loop-place.invariant
