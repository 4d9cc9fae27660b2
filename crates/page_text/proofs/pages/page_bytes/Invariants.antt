use Rattle.std.proofs.Common.{◌≡◌}
use Rattle.page_text.specs.Walking.{rest_after_pages, walked_pages}
use Rattle.page_text.proofs.pages.page_bytes.Given as goal

abbrev pub invariant-loop-page : goal.invariant-loop-page
invariant-loop-page l = record {
  left : l.left ≡ rest_after_pages l.lines l.form_lines l.page;
  bytes : l.out.items ≡ walked_pages l.lines l.form_lines l.page;
}
