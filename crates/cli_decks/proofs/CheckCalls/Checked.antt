-- What was checked, by the text of the chart.
use Rattle.std.proofs.Common.{◌≡◌, ◌≢◌, ◌⊎◌, inl, inr, ℕ, List, Option, Some, None, IfSome, Result, Ok, Err, OnOk, IfErr, subst}
use Rattle.cli_decks.specs.CheckCalls.CheckEnds.{HasRunnableDeck, PrintsOk, StopsCheck, chart_refused, chart_unread, deck_told}
use Rattle.cli_commands.specs.CommandsWords.Answers.{CompilesAs}
use Rattle.compile407.specs.ChartFaults.{HasChartFault}
use Rattle.compile407.specs.Compilation.{Compilation}
use Rattle.cli_decks.specs.CheckCalls.DeckChecks.Endings.{EndsCheck, IsFine, WritesFine}
use Rattle.chart_lines.specs.ChartsWords.Chart.{Chart}
use Rattle.fault_lines.proofs.FaultsWords.Statuses.{memory_or_not}
use Rattle.fault_lines.specs.FaultsWords.ToldFaults.{chart_told}
use Rattle.fault_lines.specs.declared.faults.chart.ChartFault.{ChartFault}
use Rattle.fault_lines.specs.declared.faults.chart.ChartFault.TheVariants as chart
use Rattle.fault_lines.specs.declared.faults.fault.Fault.{Fault}
use Rattle.fault_lines.specs.declared.faults.fault.Fault.TheVariants as fault
use Rattle.cli_commands.proofs.CommandsWords.Refusing.{chart_refused as refused_chart}

-- the chart is refused, or memory is wanting
pub chart_stops : (text : List ℕ) (deck old new : Option (List ℕ)) (cause : ChartFault) (told : Fault) (Unprinted : Type 0)
    → (cause ≢ chart.Memory → HasChartFault text cause) → told ≡ chart_told cause → Unprinted → StopsCheck text deck old new told Unprinted
chart_stops text deck old new cause told Unprinted has named unprinted = by (memory_or_not told)
  where
    by : (told ≡ fault.Memory) ⊎ (told ≢ fault.Memory) → StopsCheck text deck old new told Unprinted
    by (inl is) = chart_unread is unprinted
    by (inr not_memory) = chart_refused (refused_chart text cause told has named not_memory) unprinted

-- nothing is told of the deck
runnable : (compiled : Compilation) (cards : List (List ℕ)) (deck : Option (List ℕ)) → IfSome deck (λ text. IsFine compiled.chart text cards)
    → IfSome deck (HasRunnableDeck compiled cards)
runnable compiled cards None fine = tt
runnable compiled cards (Some text) fine = record {
  deck = fine.deck;
  runnable = record { deck = record { valid = fine.valid; long = fine.deck.few }; fits = fine.fit };
}

module _ (text : List ℕ) (deck old new : Option (List ℕ)) (compiled : Compilation) (chart : Chart) (same : chart ≡ compiled.chart)
    (compiles : CompilesAs text compiled) where
  pub prints_ok : {X E : Type 0} (result : Result X E) → OnOk result (WritesFine chart deck old new) → OnOk result (PrintsOk text deck old new)
  prints_ok (Ok x) fine = record {
    compiled = compiled;
    compiles = compiles;
    cards = fine.cards;
    fine = runnable compiled fine.cards deck (subst (λ c. IfSome deck (λ text. IsFine c text fine.cards)) same fine.fine);
    written = fine.written;
  }
  prints_ok (Err e) fine = tt

  pub deck_stops : {X : Type 0} (result : Result X Fault) (Unprinted : Type 0) → IfErr result (λ told. EndsCheck chart deck old new told)
      → IfErr result (λ told. StopsCheck text deck old new told Unprinted)
  deck_stops (Ok x) Unprinted ends = tt
  deck_stops (Err told) Unprinted ends = deck_told compiled compiles (subst (λ c. EndsCheck c deck old new told) same ends)
