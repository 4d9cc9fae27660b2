-- Helper words of the code: what a cycle makes of lines that are sought in a run.
use Rattle.std.specs.Prelude.{◌≡◌, ◌==◌, ◌&&◌, Bool, Option, Some, None, if◌then◌else◌, is_some}
use Rattle.explain_ledgers.specs.declared.ledgers.found.EndedCycle.{EndedCycle}
use Rattle.explain_ledgers.specs.declared.ledgers.found.FoundCycle.{FoundCycle}
use Rattle.explain_ledgers.specs.declared.ledgers.found.LinePlace.{LinePlace}
use Rattle.explain_ledgers.specs.declared.ledgers.found.SoughtLine.{SoughtLine}
use Rattle.page_text.specs.declared.placed_lines.placed_line.PlacedLine.{PlacedLine}

-- a line that is not found yet
abbrev pub unfound : LinePlace → SoughtLine
unfound at = record { at = at; found = None }

abbrev pub IsUnfound : SoughtLine → Type 0
IsUnfound sought = sought.found ≡ None

-- a line is found
abbrev pub is_found : SoughtLine → Bool
is_found sought = is_some sought.found

-- a cycle that placed a line, as it is found
abbrev pub found_of : EndedCycle → PlacedLine → FoundCycle
found_of one line = record { passed = one.passed; cycle = one.cycle; card = one.card; line = line }

-- a cycle, if the line that it placed stands at a place
abbrev pub found_at : EndedCycle → LinePlace → Option PlacedLine → Option FoundCycle
found_at one at None = None
found_at one at (Some line) = if (line.page == at.page) && (line.line == at.line) then Some (found_of one line) else None

-- the cycle that placed a line: the one that was found before, or else this one
abbrev pub found_after : EndedCycle → LinePlace → Option FoundCycle → Option FoundCycle
found_after one at (Some found) = Some found
found_after one at None = found_at one at one.placed

abbrev pub noted : EndedCycle → SoughtLine → SoughtLine
noted one sought = record sought { found = found_after one sought.at sought.found }
