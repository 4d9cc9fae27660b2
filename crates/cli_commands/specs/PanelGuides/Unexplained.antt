-- The line that tells why a wheel is not explained, and the status of the program then.
use Rattle.std.specs.Prelude.{◌≡◌, ℕ, Bool, true, List, ◌++◌, Option, codes, decimal}
use Rattle.std.specs.Io.KnownBytes.{Appends}
use Rattle.fault_lines.specs.FaultsWords.Lines.{fault_line}
use Rattle.fault_lines.specs.FaultsWords.Status.{status_of}
use Rattle.cli_commands.specs.declared.panel_guides.unexplained.Unexplained.{Unexplained}
use Rattle.cli_commands.specs.declared.panel_guides.unexplained.Unexplained.TheVariants as why

-- the line
abbrev pub unexplained_line : Unexplained → List ℕ
unexplained_line (why.Failed fault) = fault_line fault
unexplained_line (why.NoSuchLine page line) =
    codes "fault 92 page " ++ decimal page ++ codes " line " ++ decimal line ++ codes "\n"
unexplained_line (why.NoSuchWheel wheel) = codes "fault 93 wheel " ++ decimal wheel ++ codes "\n"

-- the status: a line or a wheel that there isn't is refused input
abbrev pub unexplained_status : Unexplained → ℕ
unexplained_status (why.Failed fault) = status_of fault
unexplained_status (why.NoSuchLine page line) = 3
unexplained_status (why.NoSuchWheel wheel) = 3

-- the line is what a writer has taken, where it is told
abbrev pub IsToldUnexplained : Unexplained → Bool → (old new : Option (List ℕ)) → Type 0
IsToldUnexplained told is_told old new = is_told ≡ true → Appends old new (unexplained_line told)
