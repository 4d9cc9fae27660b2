use Rattle.std.proofs.Common.{◌≡◌, ◌∙◌, ap, sym, arith, ℕ, []}
use Rattle.std.specs.List.{flat_map, range_with_len}
use Rattle.explain_words.specs.ExplanationText.Closing.{row_listed}
use Rattle.explain_words.proofs.ExplanationText.Gains.{number_more}
use Rattle.explain_words.proofs.ExplanationText.Rows.{rows_whole}
use Rattle.explain_words.proofs.explanation_text.closing.rows_listed.Goals as goal

pub loop-place-preserved : goal.loop-place-preserved
loop-place-preserved c =
    number_more (row_listed c.args.received.now) [] c.loop-place.rows.items c.push_row.new.rows.items c.loop-place.place
    c.loop-place.invariant c.in_ok-push_row.ensures

pub returns : goal.returns
returns c =
    let all : c.loop-place.place ≡ 12 = omega (arith, c.loop-place.auto.place-end, c.loop-place-test.false) in
    c.loop-place.invariant ∙ ap (λ (n : ℕ). flat_map (row_listed c.args.received.now) (range_with_len 0 n)) all
    ∙ sym (rows_whole c.args.received.now)
