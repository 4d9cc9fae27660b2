use Rattle.std.proofs.Common.{◌≡◌, ◌∙◌, ◌+◌, ◌-◌, ◌<◌, ◌++◌, ℕ, ap, arith, length, length-append}
use Rattle.std.proofs.lemmas.Result.{err_from_is_err_and}
use Rattle.report_writer.specs.Added.{blank_pages, page_end}
use Rattle.report_writer.proofs.BlankPages.{blank_pages-append, blank_pages_more}
use Rattle.report_writer.proofs.Sending.{breaks_after, breaks_in, takes_after, takes_as, total_after}
use Rattle.report_writer.proofs.feeding.feed_pages.Goals as goal

-- a page more, and those that are left
parts : (form_lines page pages : ℕ) → page < pages
    → (blank_pages form_lines page ++ page_end form_lines 0) ++ blank_pages form_lines (pages - (page + 1)) ≡ blank_pages form_lines pages
parts form_lines page pages within =
    let sum : page + 1 + (pages - (page + 1)) ≡ pages = omega arith in
    ap (λ t. t ++ blank_pages form_lines (pages - (page + 1))) (blank_pages_more form_lines page)
    ∙ blank_pages-append form_lines (page + 1) (pages - (page + 1))
    ∙ ap (blank_pages form_lines) sum

pub end_page-requires-clause-fits : goal.end_page-requires-clause-fits
end_page-requires-clause-fits g c =
    let page = c.loop-page._page in
    let form_lines = c.args.form_lines in
    omega (
      arith,
      total_after c.loop-page.invariant.bytes,
      ap length (parts form_lines page c.args.pages c.loop-page-test.true),
      length-append (blank_pages form_lines page ++ page_end form_lines 0) (blank_pages form_lines (c.args.pages - (page + 1))),
      length-append (blank_pages form_lines page) (page_end form_lines 0),
      c.requires,
    )

pub returns-in_err-end_page-clause-bytes : goal.returns-in_err-end_page-clause-bytes
returns-in_err-end_page-clause-bytes g c =
    let p = err_from_is_err_and c.from_residual.result c.from_residual.ensures.1 in
    rw (p.1, p.2) (
      c.in_err-end_page.ensures.bytes.0,
      breaks_in _ (parts c.args.form_lines c.loop-page._page c.args.pages c.loop-page-test.true)
          (breaks_after c.loop-page.invariant.bytes c.in_err-end_page.ensures.bytes.1),
    )

pub loop-page-preserved : goal.loop-page-preserved
loop-page-preserved g c = record {
  bytes = takes_as (blank_pages_more c.args.form_lines c.loop-page._page) (takes_after c.loop-page.invariant.bytes c.in_ok-end_page.ensures.bytes);
  same = c.in_ok-end_page.ensures.same ∙ c.loop-page.invariant.same;
}
