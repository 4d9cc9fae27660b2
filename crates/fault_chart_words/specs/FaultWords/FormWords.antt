-- What is wrong with the numbers of a form: which of them is which, and the order in which they would be good.
use Rattle.std.specs.Prelude.{ℕ, List, [], ◌++◌, codes, decimal, min, max, if◌then◌else◌}
use Rattle.chart_lines.specs.declared.charts.chart.Line.{Line}
use Rattle.chart_lines.specs.declared.charts.statement.Statement.{Statement}
use Rattle.chart_lines.specs.declared.charts.statement.Statement.TheVariants as says
use Rattle.chart_line_rules.specs.PrintRules.Forms.{breaks_form}
use Rattle.fault_slips.specs.Counts.{count_text}
use Rattle.fault_chart_words.specs.declared.wording.TheConstants as wording

-- the lines of a form
unfoldable pub form_lines : ℕ → List ℕ
form_lines lines = count_text wording.THE_FORM_HAS.now lines wording.ONE_LINE.now

-- its first line
unfoldable pub form_first : ℕ → List ℕ
form_first first = wording.ITS_FIRST_LINE_IS.now ++ decimal first

-- its overflow line
unfoldable pub form_overflow : ℕ → List ℕ
form_overflow overflow = wording.ITS_OVERFLOW_LINE.now ++ decimal overflow

-- which number of a form is which
unfoldable pub form_text : ℕ → ℕ → ℕ → List ℕ
form_text lines first overflow = form_lines lines ++ form_first first ++ form_overflow overflow

-- the one of three numbers that is neither their least nor their greatest
abbrev pub middle : ℕ → ℕ → ℕ → ℕ
middle one other last = max (min one other) (min (max one other) last)

-- the form of three numbers in the only order that may be good: the greatest for its lines, the least for its first line
abbrev pub ordered_form : ℕ → ℕ → ℕ → Statement
ordered_form lines first overflow =
    says.Form (max (max lines first) overflow) (min (min lines first) overflow) (middle lines first overflow)

-- a question for a form: its first two numbers, and the last one
unfoldable pub asked_lines : ℕ → List ℕ
asked_lines lines = wording.DID_YOU_MEAN_FORM.now ++ decimal lines

unfoldable pub asked_first : ℕ → List ℕ
asked_first first = codes " " ++ decimal first

unfoldable pub asked_overflow : ℕ → List ℕ
asked_overflow overflow = codes " " ++ decimal overflow ++ codes "?"

unfoldable pub asked_text : ℕ → ℕ → ℕ → List ℕ
asked_text lines first overflow = asked_lines lines ++ asked_first first ++ asked_overflow overflow

unfoldable pub asked_form : Statement → List ℕ
asked_form (says.Form lines first overflow) = asked_text lines first overflow
asked_form other = []

-- the same, if the form is good on a chart
unfoldable pub meant_form : List Line → Statement → List ℕ
meant_form chart form = if breaks_form chart form then [] else asked_form form

-- which number of a form is which, and the order that may be meant
unfoldable pub form_words : List Line → Statement → List ℕ
form_words chart (says.Form lines first overflow) =
    form_text lines first overflow ++ meant_form chart (ordered_form lines first overflow)
form_words chart other = []
