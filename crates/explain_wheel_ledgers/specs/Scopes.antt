-- How far down it is told what a wheel is printed of.
use Rattle.std.specs.Prelude.{ℕ, List}
use Rattle.explain_wheels.specs.declared.explanations.explanation.Explanation.{Explanation}
use Rattle.hubs.specs.SetupsWords.Wiring.{Wiring}
use Rattle.explain_wheel_ledgers.specs.Resting.{TellsBasis}
use Rattle.explain_wheel_ledgers.specs.Whole.{TellsWhole}
use Rattle.explain_wheel_ledgers.specs.declared.chart_totals.TitledAccount.{TitledAccount}
use Rattle.explain_wheel_ledgers.specs.declared.scope.Scope.{Scope}
use Rattle.explain_wheel_ledgers.specs.declared.scope.Scope.TheVariants.{Basis, Whole}

-- the text tells all that a wheel is printed of, by its explanation: with the entries of ledgers, or down to the holes
abbrev pub TellsScope : Scope → Wiring → List (List ℕ) → List TitledAccount → (ends page line : ℕ) → Explanation → List ℕ → Type 0
TellsScope Basis wiring cards totals ends page line told answer = TellsBasis wiring cards totals ends page line told answer
TellsScope Whole wiring cards totals ends page line told answer = TellsWhole wiring cards totals ends page line told answer
