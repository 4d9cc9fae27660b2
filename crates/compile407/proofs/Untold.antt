-- A deck of which no misfit is told fits.
use Rattle.std.proofs.Common.{◌≡◌, refl, ℕ, List, [], ◌∷◌, None}
use Rattle.chart_text.specs.Below.chart_lines.declared.charts.chart.Line.{Line}
use Rattle.report_misfits.specs.Below.report_definition.Misfits.{Misfit, first_of, misfits}
use Rattle.report_misfits.specs.Below.report_definition.Totals.{Fits}
use Rattle.report_misfits.proofs.Below.report_definition.Fitting.{fit_without_misfits}

pub untold_fits : (lines : List Line) (cards : List (List ℕ)) → None ≡ first_of (misfits lines cards) → Fits lines cards
untold_fits lines cards none = (fit_without_misfits lines cards).1 (by (misfits lines cards) none)
  where
    by : (all : List Misfit) → None ≡ first_of all → all ≡ []
    by [] none = refl
    by (misfit ∷ others) none = cc
