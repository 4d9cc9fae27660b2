-- The totals of a chart, by the counter groups that serve them.
use Rattle.std.specs.Prelude.{All, ℕ, ◌==◌, ◌||◌, Bool, List, [], ◌∷◌, ◌++◌, Option, Some, None, option_to_list, if◌then◌else◌}
use Rattle.chart_rules.specs.Below.chart_line_rules.FieldRules.Fields.{field_named}
use Rattle.chart_lines.specs.ChartsWords.Field.{decimals_of}
use Rattle.chart_lines.specs.declared.charts.chart.Line.{Line}
use Rattle.chart_lines.specs.declared.charts.statement.Field.{Field}
use Rattle.chart_lines.specs.declared.charts.statement.Statement.{Statement}
use Rattle.chart_lines.specs.declared.charts.statement.Statement.TheVariants as says
use Rattle.hubs.specs.Hubs.{group_of}
use Rattle.chart_plans.specs.WantedWords.ChartTotals.{totals_of}
use Rattle.chart_plans.specs.PlansWords.Plans.{Lists, counter_on}
use Rattle.chart_plans.specs.declared.plans.counter.TotalCounter.{TotalCounter}
use Rattle.chart_plans.specs.declared.plans.counter.TotalCounter.TheVariants as of
use Rattle.explain_ledgers.specs.LedgersWords.Accounts.{IsAccount}
use Rattle.explain_ledgers.specs.declared.ledgers.account.Account.{Account}
use Rattle.explain_ledgers.specs.declared.ledgers.account.Account.TheVariants.{One, Coupled}
use Rattle.explain_wheel_ledgers.specs.Places.{place_of}
use Rattle.explain_wheel_ledgers.specs.declared.chart_totals.TitledAccount.{TitledAccount}

-- the account of one group
abbrev pub one_account : Option ℕ → Option Account
one_account None = None
one_account (Some place) = Some (One place)

-- the account of two groups
abbrev pub both_account : Option ℕ → Option ℕ → Option Account
both_account None lower = None
both_account (Some upper) None = None
both_account (Some upper) (Some lower) = Some (Coupled upper lower)

-- the account of the groups that serve a total
abbrev pub account_of : TotalCounter → Option Account
account_of (of.Single group) = one_account (place_of (group_of group.width group.number))
account_of (of.Coupled lower upper) =
    both_account (place_of (group_of upper.width upper.number)) (place_of (group_of lower.width lower.number))

-- an account, and what a chart knows of it
abbrev pub titled : Option Account → Option Field → List ℕ → Option TitledAccount
titled None field name = None
titled (Some account) None name = None
titled (Some account) (Some field) name =
    Some (record { account = account; title = record { name = name; decimals = decimals_of field.kind } })

-- a total of the amount of a name that a counter serves
abbrev pub total_of : List Line → TotalCounter → List ℕ → Option TitledAccount
total_of lines counter name = titled (account_of counter) (field_named lines name) name

-- a total that a counter serves, if there is one
abbrev pub total_by : List Line → Option TotalCounter → List ℕ → Option TitledAccount
total_by lines None name = None
total_by lines (Some counter) name = total_of lines counter name

-- the total on a line of a chart, if it is one
abbrev pub total_on : List Line → Lists → ℕ → Statement → Option TitledAccount
total_on lines plan number (says.TotalAmount total) = total_by lines (counter_on (totals_of lines) plan.counters number) total.name
total_on lines plan number other = None

-- the totals on some lines of a chart, in their order
abbrev pub totals_in : List Line → Lists → List Line → List TitledAccount
totals_in lines plan [] = []
totals_in lines plan (line ∷ others) = option_to_list (total_on lines plan line.number line.statement) ++ totals_in lines plan others

-- the group of a place is one of those of an account
abbrev pub has_place : Account → ℕ → Bool
has_place (One own) place = own == place
has_place (Coupled upper lower) place = (upper == place) || (lower == place)

-- the first total that the group of a place serves
abbrev pub find_total : List TitledAccount → ℕ → Option TitledAccount
find_total [] place = None
find_total (total ∷ totals) place = if has_place total.account place then Some total else find_total totals place

-- the groups of all totals are on the panel
abbrev pub AreAccounts : List TitledAccount → Type 0
AreAccounts totals = All (λ total. IsAccount total.account) totals
