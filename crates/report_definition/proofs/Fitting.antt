-- The totals of a deck fit exactly where it has no misfit.
use Rattle.std.proofs.Common.{◌≡◌, refl, subst, ℕ, zero, suc, ◌+◌, ◌≤◌, List, [], ◌∷◌, length, arith}
use Rattle.std.specs.List.{All}
use Rattle.std.proofs.lemmas.List.Elements.{All-nil, All-cons, All-head, All-tail}
use Rattle.chart_lines.specs.ChartsWords.Levels.{level_number}
use Rattle.chart_lines.specs.declared.charts.chart.Line.{Line}
use Rattle.chart_lines.specs.declared.charts.level.Level.{Level}
use Rattle.chart_lines.specs.declared.charts.level.Level.TheVariants as level
use Rattle.report_definition.specs.Groups.{groups_in}
use Rattle.report_definition.specs.Laws.{FitWithoutMisfits}
use Rattle.report_definition.specs.Misfits.{Misfit, misfits}
use Rattle.report_definition.specs.Totals.{GroupFits}
use Rattle.report_definition.proofs.FittingGroups.{FitIn, IsLate, late_within, within_late}

-- a number from 1 to 4 is that of a level
pub numbered : (number : ℕ) → 1 ≤ number → number ≤ 4 → (its : Level) × (level_number its ≡ number)
numbered zero some few = absurd (omega (arith, some))
numbered (suc zero) some few = (level.Minor, refl)
numbered (suc (suc zero)) some few = (level.Intermediate, refl)
numbered (suc (suc (suc zero))) some few = (level.Major, refl)
numbered (suc (suc (suc (suc zero)))) some few = (level.Final, refl)
numbered (suc (suc (suc (suc (suc more))))) some few = absurd (omega (arith, few))

-- and conversely
pub level_range : (each : Level) → (1 ≤ level_number each) × (level_number each ≤ 4)
level_range level.Minor = (omega arith, omega arith)
level_range level.Intermediate = (omega arith, omega arith)
level_range level.Major = (omega arith, omega arith)
level_range level.Final = (omega arith, omega arith)

-- each number of cards counts
abbrev Always : ℕ → Type 0
Always cards = Unit {0}

all_in : (lines : List Line) (level cards : ℕ) (groups : List (List (List ℕ))) → All (GroupFits lines level) groups
    → FitIn lines Always level cards groups
all_in lines level cards [] fit = tt
all_in lines level cards (group ∷ groups) fit = (
  λ counts. All-head (GroupFits lines level) group groups fit,
  all_in lines level (cards + length group) groups (All-tail (GroupFits lines level) group groups fit),
)

in_all : (lines : List Line) (level cards : ℕ) (groups : List (List (List ℕ))) → FitIn lines Always level cards groups
    → All (GroupFits lines level) groups
in_all lines level cards [] fit = All-nil (GroupFits lines level)
in_all lines level cards (group ∷ groups) fit =
    All-cons (GroupFits lines level) group groups (fit.0 tt) (in_all lines level (cards + length group) groups fit.1)

-- no misfit comes where none may
none_late : (lines : List Line) (some : List Misfit) → All (IsLate lines Always) some → some ≡ []
none_late lines [] late = refl
none_late lines (misfit ∷ more) late = absurd (All-head (IsLate lines Always) misfit more late tt)

late_none : (lines : List Line) (some : List Misfit) → some ≡ [] → All (IsLate lines Always) some
late_none lines [] none = All-nil (IsLate lines Always)
late_none lines (misfit ∷ more) none = absurd cc

pub fit_without_misfits : FitWithoutMisfits
fit_without_misfits lines [] = (λ fits. refl, λ none level. All-nil (GroupFits lines (level_number level)))
fit_without_misfits lines (card ∷ cards) = (
  λ fits. none_late lines (misfits lines (card ∷ cards))
      (within_late lines Always (card ∷ cards)
      (λ number some few.
      let found = numbered number some few in
      all_in lines number 0 (groups_in lines 4 number (card ∷ cards))
      (subst (λ l. All (GroupFits lines l) (groups_in lines 4 l (card ∷ cards))) found.1 (fits found.0)))),
  λ none level.
      let range = level_range level in
      in_all lines (level_number level) 0 (groups_in lines 4 (level_number level) (card ∷ cards))
      (late_within lines Always (card ∷ cards) (late_none lines (misfits lines (card ∷ cards)) none) (level_number level) range.0 range.1),
)
