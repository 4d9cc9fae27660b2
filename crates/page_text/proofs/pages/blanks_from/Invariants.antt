use Rattle.std.proofs.Common.{◌≡◌, ◌≤◌, length, take}
use Rattle.page_text.specs.Pages.{without_trailing_blanks}
use Rattle.page_text.proofs.pages.blanks_from.Given as goal

abbrev pub invariant-loop-end : goal.invariant-loop-end
invariant-loop-end l = record {
  within : l.end ≤ length l.text;
  same : without_trailing_blanks (take l.end l.text) ≡ without_trailing_blanks l.text;
}

abbrev pub decreases-loop-end : goal.decreases-loop-end
decreases-loop-end l = l.end
