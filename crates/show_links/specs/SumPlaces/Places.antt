-- The sums behind printed figures: to which counter group each belongs, and the name of its element on a page.
use Rattle.std.specs.Prelude.{ℕ, ◌+◌, ◌==◌, ◌&&◌, ◌||◌, Bool, false, List, [], ◌∷◌, ◌++◌, Option, Some, None, codes, decimal, if◌then◌else◌, option_map}
use Rattle.counters.specs.Counters.{group_of_unit}
use Rattle.explain_wheels.specs.declared.explanations.explanation.Explanation.{Explanation}
use Rattle.hubs.specs.HubText.{group_text}
use Rattle.hubs.specs.declared.hub.Group.{Group}
use Rattle.explain_ledgers.specs.declared.ledgers.account.Account.{Account}
use Rattle.explain_ledgers.specs.declared.ledgers.account.Account.TheVariants.{One, Coupled}
use Rattle.explain_wheel_ledgers.specs.Printed.{place_printed}
use Rattle.explain_wheel_ledgers.specs.ToldLedgers.{account_told}
use Rattle.explain_wheel_ledgers.specs.Totals.{find_total}
use Rattle.explain_wheel_ledgers.specs.declared.chart_totals.TitledAccount.{TitledAccount}
use Rattle.show_links.specs.Links.{row_name}
use Rattle.show_links.specs.declared.sum_places.places.SumPlace.{SumPlace}

-- the group of an account that has the units
abbrev pub units_group : Account → Group
units_group (One place) = group_of_unit (3 + place)
units_group (Coupled upper lower) = group_of_unit (3 + lower)

-- the group of an account that has the digits above them, if it has two
abbrev pub upper_group : Account → Option Group
upper_group (One place) = None
upper_group (Coupled upper lower) = Some (group_of_unit (3 + upper))

-- the account that is told for the group of a place
abbrev pub account_at : List TitledAccount → ℕ → Account
account_at totals place = account_told (find_total totals place) place

-- the sum behind a wheel that is printed of the group of a place
abbrev pub sum_at : List TitledAccount → Explanation → (place : ℕ) → SumPlace
sum_at totals why place = record {
  page = why.line.page;
  line = why.line.line;
  wheel = why.wheel;
  group = units_group (account_at totals place);
  upper = upper_group (account_at totals place);
}

-- the sum behind a wheel; none if it is printed of no counter group
abbrev pub sum_behind : List TitledAccount → Explanation → Option SumPlace
sum_behind totals why = option_map (sum_at totals why) (place_printed why)

-- two figures have the same sum behind them: they stand on one line, and are printed of one group
abbrev pub is_same_sum : SumPlace → SumPlace → Bool
is_same_sum one other =
    (one.page == other.page) && ((one.line == other.line) && ((one.group.width == other.group.width) && (one.group.number == other.group.number)))

-- the sum behind a figure is one of some sums
abbrev pub has_sum : List SumPlace → SumPlace → Bool
has_sum [] sum = false
has_sum (one ∷ others) sum = is_same_sum one sum || has_sum others sum

-- the name of a counter
unfoldable pub counter_name : Group → List ℕ
counter_name group = codes "counter " ++ group_text group

unfoldable pub group_name : Group → List ℕ
group_name group = codes "g" ++ decimal group.width ++ codes "-" ++ decimal group.number

-- the name of the element of a sum
unfoldable pub sum_name : SumPlace → List ℕ
sum_name sum = row_name sum.page sum.line ++ group_name sum.group

-- a link to it, up to its words
unfoldable pub sum_open : SumPlace → List ℕ
sum_open sum = codes "<a href=\"#" ++ sum_name sum ++ codes "\">"

-- a link to the sum behind a figure, if there is one and it has an element
abbrev pub sum_link : List SumPlace → Option SumPlace → List ℕ
sum_link sums None = []
sum_link sums (Some sum) = if has_sum sums sum then codes " " ++ sum_open sum ++ codes "the sum behind it</a>" else []
