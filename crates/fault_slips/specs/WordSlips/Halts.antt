-- Where a line leaves the forms of a chart. Words are counted from 0.
use Rattle.std.specs.Prelude.{ℕ, Bool, true, false, List, [], ◌∷◌, Option, Some, None, if◌then◌else◌}
use Rattle.fault_slips.specs.LineMarks.Spans.{word}
use Rattle.fault_slips.specs.LineSlips.Slips.{slip_of}
use Rattle.fault_slips.specs.declared.line_slips.slip.Slip.{Slip}
use Rattle.fault_slips.specs.declared.line_slips.slip.Slip.TheVariants as slip
use Rattle.fault_slips.specs.WordSlips.Stages.{behind, first_stage}
use Rattle.fault_slips.specs.declared.word_slips.halt.Halt.{Halt}
use Rattle.fault_slips.specs.declared.word_slips.stage.Stage.{Stage}

-- the places behind the first word: no form has a word at the last one
abbrev pub places : List ℕ
places = 1 ∷ 2 ∷ 3 ∷ 4 ∷ 5 ∷ 6 ∷ 7 ∷ 8 ∷ 9 ∷ 10 ∷ 11 ∷ 12 ∷ []

-- with the first word
abbrev pub all_places : List ℕ
all_places = 0 ∷ places

-- a halt, unless a form goes on
abbrev pub halt_unless : Halt → Option Stage → (Stage → Option Halt) → Option Halt
halt_unless halt None later = Some halt
halt_unless halt (Some next) later = later next

-- the first of some places at which no form has the word of a line, with what a form has there, from a stage on
unfoldable pub halt_among : List ℕ → Stage → List ℕ → Option Halt
halt_among [] stage line = None
halt_among (place ∷ others) stage line =
    halt_unless (record { place = place; stage = stage }) (behind stage (word place line)) (λ next. halt_among others next line)

-- where a line leaves the forms behind its first word, if that begins one
abbrev pub halt_behind : Option Stage → List ℕ → Option Halt
halt_behind None line = None
halt_behind (Some stage) line = halt_among places stage line

-- whether the bytes of a line tell no slip
abbrev pub is_other : Slip → Bool
is_other slip.Other = true
is_other each = false

-- where a line leaves the forms, if its bytes tell no slip
unfoldable pub halt_of : List ℕ → Option Halt
halt_of line = if is_other (slip_of line) then halt_behind (first_stage (word 0 line)) line else None
