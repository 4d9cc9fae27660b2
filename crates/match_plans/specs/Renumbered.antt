-- Plans with other numbers of a kind of part, and numbers that a setup shows.
use Rattle.std.specs.Prelude.{◌≡◌, ℕ, List}
use Rattle.chart_lines.specs.declared.charts.chart.Line.{Line}
use Rattle.match_plans.specs.NamingWires.{ShowsPartsOf}
use Rattle.match_plans.specs.Wired.{IsWiredBy}
use Rattle.chart_plans.specs.PlansWords.PartNumbers.{PartNumbers}
use Rattle.chart_plans.specs.PlansWords.Renumbered.{renumbered}
use Rattle.chart_plans.specs.PlansWords.Plans.{Lists}
use Rattle.chart_plans.specs.declared.plans.part_numbers.PartKind.{PartKind}
use Rattle.hubs.specs.SetupsWords.Wiring.{Wiring}

-- a plan with other numbers
abbrev pub with_numbers : Lists → PartNumbers → Lists
with_numbers plan numbers = record plan { numbers = numbers }

-- a plan with others of one kind
abbrev pub with_kind : Lists → PartKind → List ℕ → Lists
with_kind plan kind numbers = with_numbers plan (renumbered plan.numbers kind numbers)

-- A setup shows these numbers of a kind: by whatever plan another one is wired of which it shows the parts, with these in place of the
-- plan's own it is a plan by which that one is wired.
abbrev pub AreShown : List Line → Wiring → PartKind → List ℕ → Type 0
AreShown lines setup kind numbers =
    (other : Wiring) (its : Lists) → ShowsPartsOf lines setup other its → IsWiredBy lines other (with_kind its kind numbers)

-- a setup shows the parts of none that is wired for a chart
abbrev pub ShowsNoParts : List Line → Wiring → Type 0
ShowsNoParts lines setup = (other : Wiring) (its : Lists) → ¬ ShowsPartsOf lines setup other its

-- numbers in which those of a kind are some that a setup shows
pub record TakesShown (lines : List Line) (setup : Wiring) (kind : PartKind) (old new : PartNumbers) : Type 0 where
  pub numbers : List ℕ
  pub are : AreShown lines setup kind numbers
  pub is_new : new ≡ renumbered old kind numbers
