-- Misfits: what is told of the totals of a deck that don't fit.
use Rattle.std.specs.Prelude.{ℕ, ℤ, ◌+◌, ◌^◌, ◌==◌, nat_lt, Bool, List, [], ◌∷◌, ◌++◌, Option, Some, None, option_and_then, if◌then◌else◌, unsigned_abs}
use Rattle.std.specs.List.{filter_map}
use Rattle.chart_lines.specs.ChartsWords.Levels.{level_number}
use Rattle.chart_lines.specs.declared.charts.chart.Line.{Line}
use Rattle.chart_lines.specs.declared.charts.level.Level.{Level}
use Rattle.chart_lines.specs.declared.charts.statement.Field.{Field}
use Rattle.chart_lines.specs.declared.charts.statement.Statement.{Statement}
use Rattle.chart_lines.specs.declared.charts.statement.Statement.TheVariants as says
use Rattle.chart_lines.specs.declared.charts.statement.TotalLine.{TotalLine}
use Rattle.chart_rules.specs.Below.chart_line_rules.FieldRules.Fields.{field_named}
use Rattle.report_definition.specs.Outline.{OutlineLine, Detail, Total, outline_of}
use Rattle.report_definition.specs.Totals.{total_of}

-- whether a total has at most so many digits
abbrev pub fits_in : ℕ → ℤ → Bool
fits_in digits total = nat_lt (unsigned_abs total) (10 ^ digits)

-- What is told of a total that does not fit: its level, the name of its amount, and the number of its group's last card, from 1.
pub record Misfit : Type 0 where
  pub level : Level
  pub name : List ℕ
  pub card : ℕ

-- the misfit of a total, if it is one
abbrev pub misfit_of : TotalLine → ℕ → List (List ℕ) → Field → Option Misfit
misfit_of total card group field =
    if fits_in total.digits (total_of field group) then None
    else Some (record { level = total.level; name = total.name; card = card })

-- the misfit of a line of the chart for a group of a level, if the line shows a total of that level that does not fit
abbrev pub misfit_on : List Line → ℕ → ℕ → List (List ℕ) → Statement → Option Misfit
misfit_on lines level card group (says.TotalAmount total) =
    if level_number total.level == level
    then option_and_then (misfit_of total card group) (field_named lines total.name)
    else None
misfit_on lines level card group other = None

-- the misfits of a group, in the order of the chart's lines
abbrev pub misfits_in : List Line → ℕ → ℕ → List (List ℕ) → List Misfit
misfits_in lines level card group = filter_map (λ line. misfit_on lines level card group line.statement) lines

-- The misfits of lines of an outline after so many cards, in order: by the last card of the group, then by level, then by line.
abbrev pub misfits_after : List Line → ℕ → List OutlineLine → List Misfit
misfits_after lines cards [] = []
misfits_after lines cards (Detail opens card ∷ others) = misfits_after lines (cards + 1) others
misfits_after lines cards (Total level group ∷ others) =
    misfits_in lines level cards group ++ misfits_after lines cards others

-- the misfits of a deck, in order
abbrev pub misfits : List Line → List (List ℕ) → List Misfit
misfits lines cards = misfits_after lines 0 (outline_of lines cards)

-- the first misfit of a deck, if it has one
abbrev pub first_of : List Misfit → Option Misfit
first_of [] = None
first_of (misfit ∷ others) = Some misfit
