-- To what the entries of a sum link: of a card cycle to the card, if it is shown; of a program cycle to the lower total, the first sum of the
-- page that was printed in that cycle and is of the same amount of the chart.
use Rattle.std.specs.Prelude.{ℕ, ◌==◌, ◌&&◌, Bool, false, List, [], ◌∷◌, Option, Some, None, codes, if◌then◌else◌}
use Rattle.chart_lines.specs.ChartsWords.Name.{is_same_name}
use Rattle.explain_ledgers.specs.declared.ledgers.entry.Entry.{Entry}
use Rattle.net.specs.declared.cycle.Cycle.{Cycle}
use Rattle.net.specs.declared.cycle.Cycle.TheVariants as in_cycle
use Rattle.show_links.specs.Links.{card_open, is_shown}
use Rattle.show_links.specs.declared.shown.Shown.{Shown}
use Rattle.show_links.specs.SumPlaces.Places.{sum_open}
use Rattle.explain_wheel_ledgers.specs.declared.chart_totals.TitledAccount.{TitledAccount}
use Rattle.show_sums.specs.declared.sum_sections.sums.PageSum.{PageSum}
use Rattle.show_sums.specs.declared.sum_sections.targets.Target.{Target}
use Rattle.show_sums.specs.declared.sum_sections.targets.Target.TheVariants as leads_to

-- two totals are of one amount of a chart
abbrev pub same_amount : Option TitledAccount → Option TitledAccount → Bool
same_amount None other = false
same_amount (Some one) None = false
same_amount (Some one) (Some other) = is_same_name one.title.name other.title.name

-- the first of some sums that was printed in the cycle behind so many others, and is of this amount
abbrev pub lower_sum : List PageSum → (passed : ℕ) → Option TitledAccount → Target
lower_sum [] passed total = leads_to.Nothing
lower_sum (sum ∷ sums) passed total =
    if sum.found.passed == passed && same_amount sum.total total then leads_to.Sum sum.at else lower_sum sums passed total

-- to what an entry links, by its cycle, its card, and how many cycles were over
abbrev pub target_in : Shown → List PageSum → Option TitledAccount → Cycle → (card passed : ℕ) → Target
target_in shown sums total in_cycle.RunIn card passed = leads_to.Nothing
target_in shown sums total in_cycle.Card card passed = if is_shown shown card then leads_to.Card card else leads_to.Nothing
target_in shown sums total (in_cycle.Prog level ordinal) card passed = lower_sum sums passed total
target_in shown sums total (in_cycle.Head heading) card passed = leads_to.Nothing

abbrev pub target_of : Shown → List PageSum → Option TitledAccount → Entry → Target
target_of shown sums total entry = target_in shown sums total entry.cycle entry.card entry.passed

-- the front of a link, and its end
abbrev pub target_open : Target → List ℕ
target_open leads_to.Nothing = []
target_open (leads_to.Card number) = card_open number
target_open (leads_to.Sum at) = sum_open at

abbrev pub target_close : Target → List ℕ
target_close leads_to.Nothing = []
target_close (leads_to.Card number) = codes "</a>"
target_close (leads_to.Sum at) = codes "</a>"
