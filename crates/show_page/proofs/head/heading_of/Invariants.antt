use Rattle.std.specs.Prelude.{◌≡◌, drop}
use Rattle.show_page.specs.Titles.{heading_of}
use Rattle.show_page.proofs.head.heading_of.Given as goal

-- the heading is that of the lines that are left
abbrev pub invariant-loop-line : goal.invariant-loop-line
invariant-loop-line l = heading_of (drop l.line-index l.lines) ≡ heading_of l.lines
