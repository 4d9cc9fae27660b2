use Rattle.std.proofs.Common.{◌≡◌, drop}
use Rattle.card_code.specs.Rows.{rows}
use Rattle.print_unit.specs.ZeroControl.{set_from}
use Rattle.explain_words.proofs.explanation_text.closing.column_of.Given as goal

-- the rows from the last one up to here are read
abbrev pub invariant-loop-place : goal.invariant-loop-place
invariant-loop-place l = l.column ≡ set_from (drop l.place rows) (drop l.place l.received)
