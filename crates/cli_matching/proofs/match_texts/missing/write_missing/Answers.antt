use Rattle.std.proofs.Common.{Some, ap, length, refl, slice_get, sym, ◌∙◌, ◌≡◌}
use Rattle.std.proofs.lemmas.Option.{slice_get_read}
use Rattle.std.specs.String.{string_bytes}
use Rattle.cli_matching.proofs.MatchTexts.Lacking.{lacking_more}
use Rattle.cli_matching.proofs.match_texts.missing.write_missing.Goals as goal

pub loop-line-preserved : goal.loop-line-preserved
loop-line-preserved c =
    let at : slice_get c.lines-line-items.result.now c.loop-line.line-index ≡ Some c.line-item.result =
    slice_get_read c.lines-line-items.result.now (length c.lines-line-items.result.now) c.loop-line.line-index c.line-item.result
    refl c.loop-line-test.true c.line-item.is in
    let there = ap (λ ls. slice_get ls c.loop-line.line-index) (sym c.lines-line-items.ensures.value) ∙ at in
    lacking_more c.args.version c.args.chart.now.lines c.args.plan.now c.args.setup.now c.loop-line.line-index c.line-item.result
    (string_bytes c.args.text.now) (string_bytes c.loop-line.text) (string_bytes c.write_line_part.new.text) c.loop-line.invariant there
    c.in_ok-write_line_part.ensures
