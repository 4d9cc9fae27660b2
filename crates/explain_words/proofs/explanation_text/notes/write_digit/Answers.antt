use Rattle.std.proofs.Common.{◌≡◌, ◌∙◌, refl, sym, ap, ℕ, ◌+◌, Bool, List, ◌++◌, append-nil, decimal, if◌then◌else◌}
use Rattle.std.specs.String.{string_bytes}
use Rattle.explain_words.specs.ExplanationText.Notes.{digit_text}
use Rattle.explain_words.specs.ExplanationText.Text.{row_at}
use Rattle.explain_words.proofs.ExplanationText.Digits.{digit_end, digit_from, digit_start, digit_step}
use Rattle.explain_words.proofs.ExplanationText.Gains.{where_ok}
use Rattle.explain_words.proofs.explanation_text.notes.write_digit.Goals as goal

pub loop-place-init : goal.loop-place-init
loop-place-init c = record { text = refl; left = digit_start c.args.points.now c.args.exit }

pub returns-then-has_emitted : goal.returns-then-has_emitted
returns-then-has_emitted c =
    let points = c.args.points.now in
    let exit = c.args.exit in
    let place = c.loop-place.place in
    let old = string_bytes c.args.text.now in
    let new = string_bytes c.push_number.new.text in
    let here : digit_text points exit ≡ decimal (row_at place) =
    c.loop-place.invariant.left ∙ digit_step points exit place c.loop-place-test.true
    ∙ ap (λ (b : Bool). if b then decimal (row_at place) else digit_from points exit (place + 1))
    (sym c.has_emitted.ensures ∙ c.if-has_emitted.true) in
    where_ok (new ≡ string_bytes c.loop-place.text ++ decimal c.row_at.result) (new ≡ old ++ digit_text points exit) c.push_number.result
    (λ is. is ∙ ap (λ (l : List ℕ). l ++ decimal c.row_at.result) c.loop-place.invariant.text
    ∙ ap (λ (n : ℕ). old ++ decimal n) c.row_at.ensures ∙ ap (λ (l : List ℕ). old ++ l) (sym here))
    c.push_number.ensures.pushed

pub loop-place-preserved : goal.loop-place-preserved
loop-place-preserved c =
    let points = c.args.points.now in
    let exit = c.args.exit in
    let place = c.loop-place.place in
    record {
      text = c.loop-place.invariant.text;
      left =
          c.loop-place.invariant.left ∙ digit_step points exit place c.loop-place-test.true
          ∙ ap (λ (b : Bool). if b then decimal (row_at place) else digit_from points exit (place + 1))
          (sym c.has_emitted.ensures ∙ c.if-has_emitted.false);
    }

pub returns : goal.returns
returns c =
    c.loop-place.invariant.text ∙ sym (append-nil (string_bytes c.args.text.now))
    ∙ ap (λ (l : List ℕ). string_bytes c.args.text.now ++ l)
    (sym (c.loop-place.invariant.left ∙ digit_end c.args.points.now c.args.exit c.loop-place.place c.loop-place-test.false))
