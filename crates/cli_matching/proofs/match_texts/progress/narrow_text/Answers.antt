use Rattle.std.proofs.Common.{Some, ap, length, refl, slice_get, sym, ◌∙◌, ◌≡◌}
use Rattle.std.proofs.lemmas.Option.{slice_get_read}
use Rattle.std.specs.String.{string_bytes}
use Rattle.cli_matching.proofs.MatchTexts.Far.{narrow_more}
use Rattle.cli_matching.proofs.match_texts.progress.narrow_text.Goals as goal

pub loop-line-preserved : goal.loop-line-preserved
loop-line-preserved c =
    let at : slice_get c.lines-line-items.result.now c.loop-line.line-index ≡ Some c.line-item.result =
    slice_get_read c.lines-line-items.result.now (length c.lines-line-items.result.now) c.loop-line.line-index c.line-item.result
    refl c.loop-line-test.true c.line-item.is in
    let there = ap (λ ls. slice_get ls c.loop-line.line-index) (sym c.lines-line-items.ensures.value) ∙ at in
    narrow_more c.args.chart.now.lines c.args.setup.now c.loop-line.line-index c.line-item.result c.narrow_group.result
    (string_bytes c.loop-line.text) (string_bytes c.write_narrow.new.text) c.loop-line.invariant there c.narrow_group.ensures
    c.in_ok-write_narrow.ensures
