use Rattle.std.proofs.Common.{◌≡◌, ◌∙◌, ap, sym, arith, ℕ, List, ◌++◌}
use Rattle.std.specs.List.{flat_map, range_with_len}
use Rattle.std.specs.String.{string_bytes}
use Rattle.explain_words.specs.ExplanationText.ExplanationTexts.{lines_at}
use Rattle.explain_words.proofs.ExplanationText.Gains.{number_more}
use Rattle.explain_words.proofs.ExplanationText.Rows.{lines_whole}
use Rattle.explain_words.proofs.explanation_text.text.write_rows.Goals as goal

pub loop-place-preserved : goal.loop-place-preserved
loop-place-preserved c =
    number_more (lines_at c.args.points.now c.args.asked.now c.args.told.now) (string_bytes c.args.text.now)
    (string_bytes c.loop-place.text) (string_bytes c.write_row.new.text) c.loop-place.place c.loop-place.invariant c.in_ok-write_row.ensures

pub returns : goal.returns
returns c =
    let points = c.args.points.now in
    let asked = c.args.asked.now in
    let told = c.args.told.now in
    let all : c.loop-place.place ≡ 12 = omega (arith, c.loop-place.auto.place-end, c.loop-place-test.false) in
    c.loop-place.invariant
    ∙ ap (λ (n : ℕ). string_bytes c.args.text.now ++ flat_map (lines_at points asked told) (range_with_len 0 n)) all
    ∙ ap (λ (l : List ℕ). string_bytes c.args.text.now ++ l) (sym (lines_whole points asked told))
