use Rattle.std.proofs.Common.{◌≡◌, ◌∙◌, ap, arith, ℕ, ◌+◌, ◌-◌, ◌++◌, List}
use Rattle.std.specs.Prelude.{slice_index_or}
use Rattle.std.specs.String.{string_bytes}
use Rattle.show_sections.specs.ReportSheets.Sheets.{wheel_text}
use Rattle.show_drawings.proofs.MarkupWords.Pieces.{range_more}
use Rattle.show_sections.proofs.report_sheets.sheets.write_characters.Goals as goal

pub loop-place-preserved : goal.loop-place-preserved
loop-place-preserved c =
    let wheel : ℕ → List ℕ =
    λ (w : ℕ). wheel_text c.args.page c.args.line w (slice_index_or c.args.characters.now (w - 1) 0) in
    let mid = string_bytes c.loop-place.text in
    let here : c.loop-place.place ≡ c.loop-place.place + 1 - 1 = omega arith in
    range_more wheel (string_bytes c.args.text.now) mid (string_bytes c.write_wheel.new.text) c.loop-place.place
    c.loop-place.invariant
    (c.in_ok-write_wheel.ensures
    ∙ ap (λ (n : ℕ). mid ++ wheel_text c.args.page c.args.line (c.loop-place.place + 1) (slice_index_or c.args.characters.now n 0)) here)
