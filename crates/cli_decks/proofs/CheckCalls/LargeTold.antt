-- What was told of large totals.
use Rattle.std.proofs.Common.{ℕ, List, Option, Result, Ok, Err, OnOk}
use Rattle.std.specs.Io.KnownBytes.{Appends}
use Rattle.chart_lines.specs.ChartsWords.Chart.{Chart}
use Rattle.cli_decks.specs.CheckCalls.Large.{TellsLarge, WritesLarge}

pub large_written : {U E : Type 0} (result : Result U E) (chart : Chart) (deck told : List ℕ) (old new : Option (List ℕ)) → TellsLarge chart deck told
    → OnOk result (Appends old new told) → OnOk result (WritesLarge chart deck old new)
large_written (Ok x) chart deck told old new tells written = record { large = told; tells = tells; written = written }
large_written (Err e) chart deck told old new tells written = tt
