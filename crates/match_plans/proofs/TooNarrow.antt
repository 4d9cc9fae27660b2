-- Groups that are too narrow for a total.
use Rattle.std.proofs.Common.{◌≡◌, ◌∙◌, ℕ, ◌<◌, ◌≤◌, sym, ap, subst, arith, List, Option, Some, None, IfSome}
use Rattle.std.specs.Prelude.{IfNone}
use Rattle.capacity.specs.Capacities.{HasGroup, standard}
use Rattle.capacity.specs.declared.group.CounterGroup.{CounterGroup}
use Rattle.chart_lines.specs.declared.charts.chart.Line.{Line}
use Rattle.match_plans.proofs.Rows.{has-place}
use Rattle.match_plans.specs.Groups.{group_with}
use Rattle.match_plans.specs.Narrow.{IsNarrow, IsNarrowOn, IsTotal, NarrowFor}
use Rattle.match_plans.specs.Totals.{units_of}
use Rattle.match_plans.specs.Wired.{TotalOn, units_wheel}
use Rattle.match_plans.specs.declared.total_counters.TotalUnits.{TotalUnits}
use Rattle.match_plans.specs.declared.narrow.Narrow.{Narrow}
use Rattle.hubs.specs.SetupsWords.Wiring.{Wiring}

-- no group of the machine is so, where none at a place is
pub none_narrow : (setup : Wiring) (level wheel need : ℕ) {bound : ℕ} → 32 ≤ bound
    → ((p : ℕ) → p < bound → ¬ IsNarrow setup level wheel need (group_with p)) → (group : CounterGroup) → HasGroup standard group
    → ¬ IsNarrow setup level wheel need group
none_narrow setup level wheel need last none group there narrow =
    let at = has-place group there in
    none at.place (omega (arith, last, at.within)) (subst (IsNarrow setup level wheel need) (sym at.is) narrow)

-- where no total stands on a line
pub no_total : (lines : List Line) (setup : Wiring) (line : Line) (units : Option TotalUnits) → units ≡ None
    → ((total : TotalOn lines line) → units_wheel lines line total < 256 → units ≡ Some (units_of lines line total))
    → IsNarrowOn lines setup line None
no_total lines setup line units is value = record {
  only = tt;
  is = λ total less. tt;
  none = λ total less. absurd (let e = sym is ∙ value total less in cc);
}

abbrev unit_in : TotalUnits → Option TotalUnits → TotalUnits
unit_in other None = other
unit_in other (Some units) = units

-- and where one does
pub of_total : (lines : List Line) (setup : Wiring) (line : Line) (shown : Option TotalUnits) (units : TotalUnits) (found : Option Narrow) → shown ≡ Some units
    → ((total : TotalOn lines line) → units_wheel lines line total < 256 → shown ≡ Some (units_of lines line total)) → IsTotal line.statement
    → IfSome found (NarrowFor setup units.level units.wheel units.need)
    → IfNone found ((group : CounterGroup) → HasGroup standard group → ¬ IsNarrow setup units.level units.wheel units.need group)
    → IsNarrowOn lines setup line found
of_total lines setup line shown units found is value only some none = record {
  only = whatever found;
  is = λ total less.
      subst (λ (u : TotalUnits). IfSome found (NarrowFor setup u.level u.wheel u.need)) (same total less) some;
  none = λ total less.
      subst
      (λ (u : TotalUnits). IfNone found ((group : CounterGroup) → HasGroup standard group → ¬ IsNarrow setup u.level u.wheel u.need group))
      (same total less) none;
}
  where
    same : (total : TotalOn lines line) → units_wheel lines line total < 256 → units ≡ units_of lines line total
    same total less = ap (unit_in units) (sym is ∙ value total less)

    whatever : (its : Option Narrow) → IfSome its (λ _. IsTotal line.statement)
    whatever None = tt
    whatever (Some narrow) = only
