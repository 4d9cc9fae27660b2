use Rattle.card_code.specs.Lines.{lines_of}
use Rattle.std.proofs.Common.{[], slice_index_or, ◌+◌, ◌≡◌, ℕ}
use Rattle.wiring_legend.proofs.writing.line_numbered.Given as goal

abbrev pub invariant-loop-passed : goal.invariant-loop-passed
invariant-loop-passed l = (k : ℕ) → slice_index_or (lines_of l.rest) k [] ≡ slice_index_or (lines_of l.source) (k + l.passed) []
