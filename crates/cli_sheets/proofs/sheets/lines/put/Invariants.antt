use Rattle.std.proofs.Common.{◌≡◌, ◌+◌, ◌<◌, ◌≤◌, ℕ, get_or, length}
use Rattle.cli_sheets.specs.SheetsWords.Helper.{over}
use Rattle.cli_sheets.proofs.sheets.lines.put.Given as goal

-- so many wheels are done, and the others are as they were
abbrev pub invariant-loop-place : goal.invariant-loop-place
invariant-loop-place l =
    ((k : ℕ) → k < l.place → get_or l.line k 0 ≡ over l.first l.characters (k + 1) (get_or l.initial.line k 0))
    × ((k : ℕ) → l.place ≤ k → get_or l.line k 0 ≡ get_or l.initial.line k 0)
    × (length l.line ≡ 120)
