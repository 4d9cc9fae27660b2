-- The blank lines and form feeds between two places.
use Rattle.std.proofs.Common.{◌≡◌, ◌∙◌, ℕ, ◌+◌, ◌-◌, ◌<◌, ◌==◌, true, false, ◌++◌, length, replicate, ap, arith, length-append, if◌then◌else◌}
use Rattle.std.proofs.lemmas.Bool.Decides.{nat_tests}
use Rattle.std.proofs.lemmas.List.{length-replicate}
use Rattle.report_writer.specs.Added.{blank_pages, feeds, page_end}

-- on the same page
pub feeds_here : (form_lines page lines later_page later_lines : ℕ) → page ≡ later_page
    → feeds form_lines page lines later_page later_lines ≡ replicate (later_lines - lines) 10
unfolding feeds
feeds_here form_lines page lines later_page later_lines is =
    let test : (page == later_page) ≡ true = grind (arith, nat_tests) in
    ap
    (λ b. if b then replicate (later_lines - lines) 10
    else page_end form_lines lines ++ (blank_pages form_lines (later_page - (page + 1)) ++ replicate later_lines 10))
    test

-- on a later page
pub feeds_later : (form_lines page lines later_page later_lines : ℕ) → page < later_page
    → feeds form_lines page lines later_page later_lines
    ≡ page_end form_lines lines ++ (blank_pages form_lines (later_page - (page + 1)) ++ replicate later_lines 10)
unfolding feeds
feeds_later form_lines page lines later_page later_lines less =
    let test : (page == later_page) ≡ false = grind (arith, nat_tests) in
    ap
    (λ b. if b then replicate (later_lines - lines) 10
    else page_end form_lines lines ++ (blank_pages form_lines (later_page - (page + 1)) ++ replicate later_lines 10))
    test

-- how many bytes they are
pub here_long : (form_lines page lines later_page later_lines : ℕ) → page ≡ later_page
    → length (feeds form_lines page lines later_page later_lines) ≡ later_lines - lines
here_long form_lines page lines later_page later_lines is =
    ap length (feeds_here form_lines page lines later_page later_lines is) ∙ length-replicate (later_lines - lines) 10

pub later_long : (form_lines page lines later_page later_lines : ℕ) → page < later_page
    → length (feeds form_lines page lines later_page later_lines)
    ≡ length (page_end form_lines lines) + (length (blank_pages form_lines (later_page - (page + 1))) + later_lines)
later_long form_lines page lines later_page later_lines less =
    let blank = blank_pages form_lines (later_page - (page + 1)) in
    omega (
      arith,
      ap length (feeds_later form_lines page lines later_page later_lines less),
      length-append (page_end form_lines lines) (blank ++ replicate later_lines 10),
      length-append blank (replicate later_lines 10),
      length-replicate {A = ℕ} later_lines 10,
    )
