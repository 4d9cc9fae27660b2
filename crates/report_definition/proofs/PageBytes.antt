-- The line feeds and form feeds of pages.
use Rattle.std.proofs.Common.{◌≡◌, ◌∙◌, refl, ap, ℕ, zero, suc, ◌+◌, ◌*◌, ◌≤◌, ◌==◌, ◌&&◌, Bool, true, false, List, [], ◌∷◌, ◌++◌, if◌then◌else◌, arith}
use Rattle.std.specs.List.{All, AllPass, flat_map, range_with_len}
use Rattle.std.proofs.lemmas.Bool.{eqb-true}
use Rattle.std.proofs.lemmas.List.Elements.{All-head, All-tail, All-weaker}
use Rattle.page_text.specs.declared.placed_lines.placed_line.PlacedLine.{PlacedLine}
use Rattle.chart_lines.specs.ChartsWords.Literal.{is_printable}
use Rattle.card_code.specs.CardCode.{code, rows_of}
use Rattle.page_text.specs.Pages.{Pages, onto_cut, without_trailing_blanks, text_at, line_bytes, page_bytes, last_page}
use Rattle.report_definition.specs.ChartForm.{form_of}
use Rattle.report_definition.specs.PageLaws.{count_of, HasPrintCharacters, IsOneLine, PagesHaveTheirLines, ReportLinesAreOneLine, ReportPagesHaveTheirLines}
use Rattle.report_definition.specs.Report.{report_lines}
use Rattle.report_definition.proofs.PrintCharacters.{report_lines_print}

-- how often a byte stands in two texts
count-append : (byte : ℕ) (one other : List ℕ) → count_of byte (one ++ other) ≡ count_of byte one + count_of byte other
count-append byte [] other = omega arith
count-append byte (first ∷ one) other = let more = count-append byte one other in omega (arith, more)

-- a cut text has no byte more often than the text
cut-count : (byte : ℕ) (text : List ℕ) → count_of byte (without_trailing_blanks text) ≤ count_of byte text
cut-count byte [] = omega arith
cut-count byte (character ∷ text) = onto (without_trailing_blanks text) (cut-count byte text)
  where
    here : ℕ
    here = if character == byte then 1 else 0

    one : (b : Bool) → count_of byte (if b then [] else character ∷ []) ≤ here + count_of byte text
    one true = omega arith
    one false = omega arith

    onto : (cut : List ℕ) → count_of byte cut ≤ count_of byte text → count_of byte (onto_cut character cut) ≤ here + count_of byte text
    onto [] h = one (character == 32)
    onto (next ∷ others) h = omega (arith, h)

-- the text at a place has no byte that no line has
text-none : (byte : ℕ) → ((placed : PlacedLine) → IsOneLine placed → count_of byte placed.text ≡ 0) → (lines : List PlacedLine) (page line : ℕ)
    → All IsOneLine lines → count_of byte (text_at lines page line) ≡ 0
text-none byte none [] page line texts = refl
text-none byte none (placed ∷ others) page line texts =
    by (placed.page == page && placed.line == line) (none placed (All-head IsOneLine placed others texts))
    (text-none byte none others page line (All-tail IsOneLine placed others texts))
  where
    by : (b : Bool) → count_of byte placed.text ≡ 0 → count_of byte (text_at others page line) ≡ 0
        → count_of byte (if b then placed.text else text_at others page line) ≡ 0
    by true here rest = here
    by false here rest = rest

-- the bytes of a line
line-count : (byte : ℕ) → ((placed : PlacedLine) → IsOneLine placed → count_of byte placed.text ≡ 0) → (lines : List PlacedLine) (page line : ℕ)
    → All IsOneLine lines → count_of byte (line_bytes lines page line) ≡ count_of byte (10 ∷ [])
line-count byte none lines page line texts =
    let cut = cut-count byte (text_at lines page line) in
    let text = text-none byte none lines page line texts in
    let both = count-append byte (without_trailing_blanks (text_at lines page line)) (10 ∷ []) in
    omega (arith, cut, text, both)

-- texts one after the other, each with a byte equally often
texts-count : (byte : ℕ) (text : ℕ → List ℕ) (from long each : ℕ) → ((n : ℕ) → count_of byte (text n) ≡ each)
    → count_of byte (flat_map text (range_with_len from long)) ≡ long * each
texts-count byte text from zero each all = omega arith
texts-count byte text from (suc long) each all =
    count-append byte (text from) (flat_map text (range_with_len (from + 1) long))
    ∙ (let here = all from in let more = texts-count byte text (from + 1) long each all in omega (arith, here, more))

page-count : (byte : ℕ) (lines : List PlacedLine) (long page each : ℕ)
    → ((line : ℕ) → count_of byte (line_bytes lines page line) ≡ each)
    → count_of byte (page_bytes lines long page) ≡ long * each + count_of byte (12 ∷ [])
page-count byte lines long page each all =
    count-append byte (flat_map (line_bytes lines page) (range_with_len 1 long)) (12 ∷ [])
    ∙ ap (λ n. n + count_of byte (12 ∷ [])) (texts-count byte (line_bytes lines page) 1 long each all)

pub pages_have_lines : PagesHaveTheirLines
pages_have_lines lines long page texts =
    let feeds = page-count 10 lines long page 1 (λ line. line-count 10 (λ placed one. one.no_line_feed) lines page line texts) in
    let forms = page-count 12 lines long page 0 (λ line. line-count 12 (λ placed one. one.no_form_feed) lines page line texts) in
    (omega (arith, feeds), omega (arith, forms))

-- a character that is neither a print character nor a blank stands in no text of these
none-printed : (byte : ℕ) → is_printable byte ≡ false → (text : List ℕ) → AllPass is_printable text → count_of byte text ≡ 0
none-printed byte other [] prints = refl
none-printed byte other (character ∷ text) prints =
    by (character == byte) refl (All-head (λ c. is_printable c ≡ true) character text prints)
    (none-printed byte other text (All-tail (λ c. is_printable c ≡ true) character text prints))
  where
    by : (b : Bool) → (character == byte) ≡ b → is_printable character ≡ true → count_of byte text ≡ 0
        → (if b then 1 else 0) + count_of byte text ≡ 0
    by true is here rest = let same : character ≡ byte = eqb-true character byte is in cc
    by false is here rest = omega (arith, rest)

feeds : (is_printable 10 ≡ false) × (is_printable 12 ≡ false)
unfolding rows_of code
feeds = (refl, refl)

pub lines_are_one_line : ReportLinesAreOneLine
lines_are_one_line chart cards texts =
    All-weaker HasPrintCharacters IsOneLine
    (λ placed prints. record {
      no_line_feed = none-printed 10 feeds.0 placed.text prints;
      no_form_feed = none-printed 12 feeds.1 placed.text prints;
    })
    (report_lines chart cards) (report_lines_print chart cards texts)

pub report_pages_have_lines : ReportPagesHaveTheirLines
unfolding Pages
report_pages_have_lines chart cards texts =
    let lines = report_lines chart cards in
    let long = (form_of chart.lines).lines in
    let one = lines_are_one_line chart cards texts in
    let forms = texts-count 12 (page_bytes lines long) 1 (last_page lines) 1 (λ page. (pages_have_lines lines long page one).1) in (
      texts-count 10 (page_bytes lines long) 1 (last_page lines) long (λ page. (pages_have_lines lines long page one).0),
      omega (arith, forms),
    )
