use Rattle.std.proofs.Common.{◌≡◌, ◌++◌, replicate}
use Rattle.cli_sheets.proofs.sheets.runs.write_run.Given as goal

-- so many are written
abbrev pub invariant-loop : goal.invariant-loop
invariant-loop l = l.text.items ≡ l.initial.text.items ++ replicate l.counter l.character
