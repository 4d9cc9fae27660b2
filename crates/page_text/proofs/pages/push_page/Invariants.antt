use Rattle.std.proofs.Common.{◌≡◌, ◌++◌}
use Rattle.page_text.specs.Walking.{rest_after_lines, walked_lines}
use Rattle.page_text.proofs.pages.push_page.Given as goal

abbrev pub invariant-loop-line : goal.invariant-loop-line
invariant-loop-line l = record {
  left : l.left ≡ rest_after_lines l.lines l.page l.line;
  bytes : l.out.items ≡ l.initial.out.items ++ walked_lines l.lines l.page l.line;
}
