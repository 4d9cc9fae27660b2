-- How many bytes a line adds: fewer than its place gains, where a page counts 20,000 and a line of it 130.
use Rattle.std.proofs.Common.{◌≡◌, ℕ, zero, suc, ◌+◌, ◌-◌, ◌*◌, ◌≤◌, inl, inr, [], ◌∷◌, ◌++◌, length, arith, length-append}
use Rattle.page_text.specs.Pages.{without_trailing_blanks}
use Rattle.page_text.proofs.CutTexts.{no_longer}
use Rattle.report_writer.proofs.BlankPages.{page_end-long}
use Rattle.report_writer.proofs.Feeds.{here_long, later_long}
use Rattle.report_writer.specs.Added.{added, blank_pages, feeds, page_end}
use Rattle.page_text.specs.declared.placed_lines.placed_line.PlacedLine.{PlacedLine}
use Rattle.page_text.specs.PlacedLines.InOrder.{IsAfter, IsOnForm}

-- a page has 145 bytes of blank lines at most
blank_long : (form_lines pages : ℕ) → form_lines ≤ 144 → length (blank_pages form_lines pages) ≤ 145 * pages
blank_long form_lines zero few = omega arith
blank_long form_lines (suc pages) few =
    omega (
      arith,
      length-append (page_end form_lines 0) (blank_pages form_lines pages),
      page_end-long form_lines 0,
      blank_long form_lines pages few,
    )

pub line_long : (form_lines page line : ℕ) (placed : PlacedLine)
    → length (added form_lines page line placed)
    ≡ length (feeds form_lines page line placed.page (placed.line - 1)) + (length (without_trailing_blanks placed.text) + 1)
line_long form_lines page line placed =
    let cut = without_trailing_blanks placed.text in
    omega (
      arith,
      length-append (feeds form_lines page line placed.page (placed.line - 1)) (cut ++ 10 ∷ []),
      length-append {A = ℕ} cut (10 ∷ []),
    )

pub added_long : (form_lines page line : ℕ) (placed : PlacedLine) → form_lines ≤ 144 → line ≤ form_lines → length placed.text ≤ 120
    → IsAfter page line placed.page placed.line → IsOnForm form_lines placed
    → length (added form_lines page line placed) + (20000 * page + 130 * line) ≤ 20000 * placed.page + 130 * placed.line
added_long form_lines page line placed few within short (inl less) on_form =
    omega (
      arith,
      line_long form_lines page line placed,
      no_longer placed.text,
      later_long form_lines page line placed.page (placed.line - 1) less,
      page_end-long form_lines line,
      blank_long form_lines (placed.page - (page + 1)) few,
      on_form.line_from,
    )
added_long form_lines page line placed few within short (inr same) on_form =
    omega (
      arith,
      line_long form_lines page line placed,
      no_longer placed.text,
      here_long form_lines page line placed.page (placed.line - 1) same.0,
      same.0,
      same.1,
      on_form.line_from,
    )
