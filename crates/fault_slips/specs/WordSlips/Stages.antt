-- How the forms of a chart go on behind their first words: those of version 2, which has all that version 1 has.
use Rattle.std.specs.Prelude.{ℕ, ◌-◌, ◌&&◌, Bool, true, false, List, Option, Some, None, codes, nat_lt, if◌then◌else◌}
use Rattle.std.specs.Str.{bytes_eq}
use Rattle.fault_slips.specs.WordSlips.Words.{is_literal, is_name, is_number, is_up_to}
use Rattle.fault_slips.specs.declared.word_slips.stage.Stage.{Stage}
use Rattle.fault_slips.specs.declared.word_slips.stage.Stage.TheVariants as stage

-- what a form has behind its first word
unfoldable pub first_stage : List ℕ → Option Stage
first_stage text =
    if bytes_eq text (codes "FIELD") then Some stage.FieldName
    else if bytes_eq text (codes "CONTROL") then Some stage.ControlLevel
    else if bytes_eq text (codes "PRINT") then Some stage.PrintKind
    else if bytes_eq text (codes "HEAD") then Some stage.HeadLine
    else if bytes_eq text (codes "DETAIL") then Some stage.DetailWheel
    else if bytes_eq text (codes "TOTAL") then Some stage.TotalLevel
    else if bytes_eq text (codes "SPACE") then Some stage.SpaceKind
    else if bytes_eq text (codes "AFTER") then Some stage.AfterKind
    else if bytes_eq text (codes "FORM") then Some stage.FormLines
    else if bytes_eq text (codes "TAPE") then Some stage.TapeChannel
    else if bytes_eq text (codes "END") then Some stage.Nothing
    else None

-- a stage, if a word fits the one before it
abbrev pub if_fits : Bool → Stage → Option Stage
if_fits fits next = if fits then Some next else None

-- what follows a word that is one of two
abbrev pub if_either : List ℕ → List ℕ → Stage → List ℕ → Stage → Option Stage
if_either text one behind_one other behind_other =
    if bytes_eq text one then Some behind_one else if bytes_eq text other then Some behind_other else None

-- what follows the item of a line: one stage behind a name, and nothing behind a literal
abbrev pub behind_item : List ℕ → Stage → Option Stage
behind_item text behind_name =
    if is_name text then Some behind_name else if is_literal text then Some stage.Nothing else None

-- what follows a stop behind which so many others may stand, itself among them
abbrev pub behind_stop : List ℕ → ℕ → Option Stage
behind_stop text left = if nat_lt 0 left && is_number text then Some (stage.Stops (left - 1)) else None

-- what a form has next behind a word at a stage, or nothing if no form has the word there
unfoldable pub behind : Stage → List ℕ → Option Stage
behind stage.FieldName text = if_fits (is_name text) stage.FieldKind
behind stage.FieldKind text = if_either text (codes "TEXT") stage.TextFirst (codes "AMOUNT") stage.AmountFirst
behind stage.TextFirst text = if_fits (is_number text) stage.TextLast
behind stage.TextLast text = if_fits (is_number text) stage.Nothing
behind stage.AmountFirst text = if_fits (is_number text) stage.AmountLast
behind stage.AmountLast text = if_fits (is_number text) stage.Decimals
behind stage.Decimals text = if_fits (is_number text) stage.SignWord
behind stage.SignWord text = if_either text (codes "X") stage.SignColumn (codes "NX") stage.SignColumn
behind stage.SignColumn text = if_fits (is_number text) stage.Nothing
behind stage.ControlLevel text = if_fits (is_up_to 3 text) stage.ControlName
behind stage.ControlName text = if_fits (is_name text) stage.Nothing
behind stage.PrintKind text = if_either text (codes "DETAIL") stage.Nothing (codes "GROUP") stage.Nothing
behind stage.HeadLine text = if_fits (is_up_to 3 text) stage.HeadWheel
behind stage.HeadWheel text = if_fits (is_number text) stage.HeadLiteral
behind stage.HeadLiteral text = if_fits (is_literal text) stage.Nothing
behind stage.DetailWheel text = if_fits (is_number text) stage.DetailItem
behind stage.DetailItem text = behind_item text stage.DetailOption
behind stage.DetailOption text = if_either text (codes "INDICATE") stage.IndicatedLevel (codes "MARK") stage.MarkSign
behind stage.IndicatedLevel text = if_fits (is_up_to 3 text) stage.Nothing
behind stage.MarkSign text = if_either text (codes "CR") stage.Nothing (codes "-") stage.Nothing
behind stage.TotalLevel text = if_fits (is_up_to 4 text) stage.TotalWheel
behind stage.TotalWheel text = if_fits (is_number text) stage.TotalItem
behind stage.TotalItem text = behind_item text stage.TotalDigits
behind stage.TotalDigits text = if_fits (is_number text) stage.TotalOption
behind stage.TotalOption text = if_either text (codes "COUPLED") stage.TotalMark (codes "MARK") stage.MarkSign
behind stage.TotalMark text = if_fits (bytes_eq text (codes "MARK")) stage.MarkSign
behind stage.SpaceKind text = if_either text (codes "DETAIL") stage.SpaceCount (codes "TOTAL") stage.SpaceLevel
behind stage.SpaceLevel text = if_fits (is_up_to 4 text) stage.SpaceCount
behind stage.SpaceCount text = if_fits (is_up_to 3 text) stage.Nothing
behind stage.AfterKind text = if_either text (codes "DETAIL") stage.AfterWhat (codes "TOTAL") stage.AfterLevel
behind stage.AfterLevel text = if_fits (is_up_to 4 text) stage.AfterWhat
behind stage.AfterWhat text = if_either text (codes "PAGE") stage.Nothing (codes "SKIP") stage.SkipChannel
behind stage.SkipChannel text = if_fits (is_number text) stage.Nothing
behind stage.FormLines text = if_fits (is_number text) stage.FormFirst
behind stage.FormFirst text = if_fits (is_number text) stage.FormOverflow
behind stage.FormOverflow text = if_fits (is_number text) stage.Nothing
behind stage.TapeChannel text = if_fits (is_number text) stage.FirstStop
behind stage.FirstStop text = if_fits (is_number text) (stage.Stops 9)
behind (stage.Stops left) text = behind_stop text left
behind stage.Nothing text = None

-- whether a form may end at a stage
abbrev pub may_end : Stage → Bool
may_end stage.SignWord = true
may_end stage.DetailOption = true
may_end stage.TotalDigits = true
may_end stage.TotalOption = true
may_end stage.TotalMark = true
may_end (stage.Stops left) = true
may_end stage.Nothing = true
may_end other = false
