-- The line that tells why a panel doesn't match a chart, and the status of the program then.
use Rattle.std.specs.Prelude.{◌≡◌, ℕ, Bool, true, List, ◌++◌, Option, codes, decimal}
use Rattle.std.specs.Io.KnownBytes.{Appends}
use Rattle.fault_lines.specs.FaultsWords.Lines.{fault_line}
use Rattle.fault_lines.specs.FaultsWords.Status.{status_of}
use Rattle.cli_matching.specs.declared.unmatched.Unmatched.{Unmatched}
use Rattle.cli_matching.specs.declared.unmatched.Unmatched.TheVariants as why
use Rattle.cli_matching.specs.declared.match_texts.counts.Counts.{Counts}

-- a number of a fault, and how much is missing and extra
abbrev pub figures_text : ℕ → Counts → List ℕ
figures_text number counts =
    codes "fault " ++ decimal number ++ codes " missing " ++ decimal counts.missing ++ codes " extra " ++ decimal counts.extra

-- the line that tells how much is missing and extra
abbrev pub counts_line : Counts → List ℕ
counts_line counts = figures_text 94 counts ++ codes "\n"

-- the line
abbrev pub unmatched_line : Unmatched → List ℕ
unmatched_line (why.Failed fault) = fault_line fault
unmatched_line (why.Unwired counts) = counts_line counts
unmatched_line (why.PrintsOtherwise place) =
    codes "fault 95 page " ++ decimal place.page ++ codes " line " ++ decimal place.line ++ codes "\n"

-- the status: a panel that is not wired for the chart is refused input
abbrev pub unmatched_status : Unmatched → ℕ
unmatched_status (why.Failed fault) = status_of fault
unmatched_status (why.Unwired counts) = 3
unmatched_status (why.PrintsOtherwise place) = 3

-- the line is what a writer has taken, where it is told
abbrev pub IsToldUnmatched : Unmatched → Bool → (old new : Option (List ℕ)) → Type 0
IsToldUnmatched told is_told old new = is_told ≡ true → Appends old new (unmatched_line told)
