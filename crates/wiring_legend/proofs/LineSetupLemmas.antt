-- Lines of a chart, one after another, with what each asks for.
use Rattle.std.proofs.Common.{◌≡◌, sym, subst, ℕ, ◌+◌, List, [], ◌∷◌, ◌++◌, Some, slice_get}
use Rattle.std.specs.Prelude.{String}
use Rattle.std.specs.declared.alloc.Global.{Global}
use Rattle.chart_lines.specs.declared.charts.chart.Line.{Line}
use Rattle.chart_plans.specs.PlansWords.Plans.{Lists}
use Rattle.hubs.specs.SetupsWords.Wiring.{Wiring}
use Rattle.wiring_legend.specs.LineSetups.{AreLineSetups, IsLineSetup}
use Rattle.wiring_legend.specs.LineSetups.AreLineSetups.{none, next}

pub setups-none : (lines : List Line) (plan : Lists) (source : List ℕ) (all : List (String Global × Wiring)) → all ≡ []
    → AreLineSetups lines plan source 0 all
setups-none lines plan source all is = subst (AreLineSetups lines plan source 0) (sym is) none

pub setups-more : (lines : List Line) (plan : Lists) (source : List ℕ) (place : ℕ) (line : Line)
    (before after : List (String Global × Wiring)) (said : String Global × Wiring)
    → AreLineSetups lines plan source place before → slice_get lines place ≡ Some line → IsLineSetup lines plan source line said
    → after ≡ before ++ said ∷ [] → AreLineSetups lines plan source (place + 1) after
setups-more lines plan source place line before after said are at is gained =
    subst (AreLineSetups lines plan source (place + 1)) (sym gained) (next place line before said are at is)
