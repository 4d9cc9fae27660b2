-- The forms of tapes.
use Rattle.std.specs.Prelude.{◌==◌, ◌&&◌, ℕ, Bool, List, [], if◌then◌else◌}
use Rattle.hubs.specs.SetupsWords.Tapes.{CarriageTape}
use Rattle.wire_chart.specs.WrittenText.{ended, form_line}

-- whether two tapes have one form
abbrev pub same_form : CarriageTape → CarriageTape → Bool
same_form one other = (one.lines == other.lines) && ((one.first == other.first) && (one.overflow == other.overflow))

-- how many forms are missing, and how many are extra, beside another: one, where they differ
abbrev pub forms : CarriageTape → CarriageTape → ℕ
forms one other = if same_form one other then 0 else 1

-- the line of the form of a tape, where another tape has another form
abbrev pub form_beside : (tape other : CarriageTape) → List ℕ
form_beside tape other = if same_form tape other then [] else ended (form_line tape)
