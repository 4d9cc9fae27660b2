-- Numbers that are those of each plan by which one is wired whose parts a setup shows are numbers that it shows.
use Rattle.std.proofs.Common.{◌≡◌, sym, subst, ℕ, List, Option, Some, None, IfNone, IfSome}
use Rattle.std.specs.Option.{IsSomeAnd}
use Rattle.chart_lines.specs.declared.charts.chart.Line.{Line}
use Rattle.match_plans.specs.Renumbered.{AreShown, ShowsNoParts, with_kind}
use Rattle.match_plans.specs.NamingWires.{ShowsPartsOf}
use Rattle.match_plans.specs.Wired.{IsWiredBy}
use Rattle.chart_plans.specs.PlansWords.Plans.{Lists}
use Rattle.chart_plans.specs.declared.plans.part_numbers.PartKind.{PartKind}
use Rattle.hubs.specs.SetupsWords.Wiring.{Wiring}

module _ {T : Type 0} (lines : List Line) (setup : Wiring) (kind : PartKind) (items : T → List ℕ) (own : Lists → List ℕ) (o : Option T) where
  pub shown-by : ((its : Lists) → with_kind its kind (own its) ≡ its)
      → ((other : Wiring) (its : Lists) → ShowsPartsOf lines setup other its → IsSomeAnd o (λ list. items list ≡ own its))
      → IfSome o (λ list. AreShown lines setup kind (items list))
  shown-by still found = by o found
    where
      by : (each : Option T) → ((other : Wiring) (its : Lists) → ShowsPartsOf lines setup other its → IsSomeAnd each (λ list. items list ≡ own its))
          → IfSome each (λ list. AreShown lines setup kind (items list))
      by (Some list) are = λ other its shows.
          subst (λ ns. IsWiredBy lines other (with_kind its kind ns)) (sym (are other its shows))
          (subst (IsWiredBy lines other) (sym (still its)) shows.wired)
      by None are = tt

  pub none-by : ((other : Wiring) (its : Lists) → ShowsPartsOf lines setup other its → IsSomeAnd o (λ list. items list ≡ own its)) → IfNone o (ShowsNoParts lines setup)
  none-by found = by o found
    where
      by : (each : Option T) → ((other : Wiring) (its : Lists) → ShowsPartsOf lines setup other its → IsSomeAnd each (λ list. items list ≡ own its))
          → IfNone each (ShowsNoParts lines setup)
      by (Some list) are = tt
      by None are = λ other its shows. are other its shows
