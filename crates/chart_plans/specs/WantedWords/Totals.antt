-- The totals of a chart, and the counter groups that they want.
use Rattle.std.specs.Prelude.{ℕ, ◌+◌, ◌≤◌, Bool, ◌&&◌, nat_le, if◌then◌else◌}
use Rattle.std.specs.Prelude.{List, All, count_by}
use Rattle.chart_line_rules.specs.FieldRules.Coupled.{needs_two}
use Rattle.chart_plans.specs.declared.wanted.total.Total.{Total}

-- no total needs more positions than two of the widest counter groups have
abbrev pub NeedsFit : List Total → Type 0
NeedsFit totals = All (λ total. total.need ≤ 16) totals

-- whether a total that needs so many positions takes two counter groups of 8, since one of them is not enough: as the rule on the word
-- COUPLED has it
abbrev pub takes_two : ℕ → Bool
takes_two need = needs_two need

-- the class of a need: the smallest width of 3, 4, 6 and 8 positions that is enough, or 8 where none is
abbrev pub class_of : ℕ → ℕ
class_of need = if nat_le need 3 then 3 else if nat_le need 4 then 4 else if nat_le need 6 then 6 else 8

-- whether a need has this width as its class or a wider one
abbrev pub is_at_least : ℕ → ℕ → Bool
is_at_least width need = nat_le width (class_of need)

-- How many counter groups of this width or a wider one totals want: one for each total that has it as its class or a
-- wider one, and a second one for each of these that takes two.
unfoldable pub wanted_at : ℕ → List Total → ℕ
wanted_at width totals =
    count_by (λ total. is_at_least width total.need) totals
    + count_by (λ total. takes_two total.need && is_at_least width total.need) totals
