-- Blank lines and form feeds: their parts, and how many there are.
use Rattle.std.proofs.Common.{◌≡◌, ◌∙◌, ℕ, zero, suc, ◌+◌, ◌-◌, [], ◌∷◌, ◌++◌, length, replicate, sym, ap, arith, append_assoc, append-nil, length-append}
use Rattle.std.proofs.lemmas.List.{length-replicate}
use Rattle.report_writer.specs.Added.{blank_pages, page_end}

-- blank pages in two parts
pub blank_pages-append : (form_lines one other : ℕ) → blank_pages form_lines one ++ blank_pages form_lines other ≡ blank_pages form_lines (one + other)
blank_pages-append form_lines zero other = let sum : zero + other ≡ other = omega arith in sym (ap (blank_pages form_lines) sum)
blank_pages-append form_lines (suc one) other =
    let sum : suc one + other ≡ suc (one + other) = omega arith in
    append_assoc (page_end form_lines 0) (blank_pages form_lines one) (blank_pages form_lines other)
    ∙ ap (λ t. page_end form_lines 0 ++ t) (blank_pages-append form_lines one other)
    ∙ sym (ap (blank_pages form_lines) sum)

one_page : (form_lines : ℕ) → blank_pages form_lines 1 ≡ page_end form_lines 0
one_page form_lines = append-nil (page_end form_lines 0)

-- a page more
pub blank_pages_more : (form_lines pages : ℕ) → blank_pages form_lines pages ++ page_end form_lines 0 ≡ blank_pages form_lines (pages + 1)
blank_pages_more form_lines pages =
    ap (λ t. blank_pages form_lines pages ++ t) (sym (one_page form_lines)) ∙ blank_pages-append form_lines pages 1

-- how many bytes end a page
pub page_end-long : (form_lines lines : ℕ) → length (page_end form_lines lines) ≡ form_lines - lines + 1
page_end-long form_lines lines =
    omega (arith, length-append {A = ℕ} (replicate (form_lines - lines) 10) (12 ∷ []), length-replicate {A = ℕ} (form_lines - lines) 10)
