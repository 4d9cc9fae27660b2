-- What was shown, by the text of the chart.
use Rattle.std.proofs.Common.{◌≡◌, ◌≢◌, ◌∙◌, ◌⊎◌, inl, inr, subst, ℕ, List, Option, IfSome}
use Rattle.std.proofs.KnownBytes.{Appends-trans}
use Rattle.std.specs.Io.KnownBytes.{Appends}
use Rattle.cli_decks.specs.CheckCalls.DeckChecks.Shown.{IsTooLong, ShowsFaults, ShowsNone}
use Rattle.cli_decks.specs.CheckCalls.Large.{TellsLarge, WritesLarge}
use Rattle.cli_decks.specs.CheckCalls.Showing.{ShowsOk, StopsShowing, memory_wanting, refused, shown, too_long, unread, unwritten}
use Rattle.cli_commands.proofs.CommandsWords.Refusing.{chart_refused as refused_chart}
use Rattle.cli_commands.specs.CommandsWords.Answers.{CompilesAs}
use Rattle.chart_lines.specs.ChartsWords.Chart.{Chart}
use Rattle.compile407.specs.ChartFaults.{HasChartFault}
use Rattle.compile407.specs.Compilation.{Compilation}
use Rattle.fault_lines.proofs.FaultsWords.Statuses.{memory_or_not}
use Rattle.fault_lines.specs.FaultsWords.ToldFaults.{chart_told}
use Rattle.fault_lines.specs.declared.faults.chart.ChartFault.{ChartFault}
use Rattle.fault_lines.specs.declared.faults.chart.ChartFault.TheVariants as chart
use Rattle.fault_lines.specs.declared.faults.fault.Fault.{Fault}
use Rattle.fault_lines.specs.declared.faults.fault.Fault.TheVariants as fault

module _ (text : List ℕ) (deck old new : Option (List ℕ)) (unreadable : Fault) (Unprinted : Type 0) where
  -- the chart is refused, or memory is wanting
  pub chart_stops : (cause : ChartFault) (told : Fault) → (cause ≢ chart.Memory → HasChartFault text cause) → told ≡ chart_told cause → Unprinted
      → StopsShowing text deck old new told unreadable Unprinted
  chart_stops cause told has named unprinted = by (memory_or_not told)
    where
      by : (told ≡ fault.Memory) ⊎ (told ≢ fault.Memory) → StopsShowing text deck old new told unreadable Unprinted
      by (inl is) = memory_wanting is
      by (inr not_memory) = refused (refused_chart text cause told has named not_memory) unprinted

  -- the deck can't be read
  pub reading_stops : (compiled : Compilation) (met told : Fault) → CompilesAs text compiled → (met ≡ fault.Memory) ⊎ (met ≡ unreadable)
      → told ≡ met → Unprinted → StopsShowing text deck old new told unreadable Unprinted
  reading_stops compiled met told compiles (inl is) same unprinted = memory_wanting (same ∙ is)
  reading_stops compiled met told compiles (inr is) same unprinted = unread compiled compiles (same ∙ is) unprinted

  -- it has too many cards, or memory is wanting
  pub cards_stop : (compiled : Compilation) (read : List ℕ) (met told : Fault) → CompilesAs text compiled → IfSome deck (λ known. read ≡ known)
      → (IsTooLong read × (met ≡ fault.Whole 3)) ⊎ ((met ≡ fault.Memory) ⊎ (met ≡ fault.Write)) → told ≡ met → Unprinted
      → StopsShowing text deck old new told unreadable Unprinted
  cards_stop compiled read met told compiles is_deck (inl long) same unprinted =
      too_long compiled compiles (record { read = read; is_deck = is_deck; long = long.0; named = same ∙ long.1 }) unprinted
  cards_stop compiled read met told compiles is_deck (inr (inl is)) same unprinted = memory_wanting (same ∙ is)
  cards_stop compiled read met told compiles is_deck (inr (inr is)) same unprinted = unwritten (same ∙ is)

  -- the output can't be written
  pub output_stops : (met told : Fault) → (met ≡ fault.Memory) ⊎ (met ≡ fault.Write) → told ≡ met
      → StopsShowing text deck old new told unreadable Unprinted
  output_stops met told (inl is) same = memory_wanting (same ∙ is)
  output_stops met told (inr is) same = unwritten (same ∙ is)

  -- faults are shown, and large totals told
  pub shown_stops : (compiled : Compilation) (chart : Chart) (read answer : List ℕ) (told : Fault) (between : Option (List ℕ))
      → CompilesAs text compiled → chart ≡ compiled.chart → IfSome deck (λ known. read ≡ known) → ShowsFaults chart read told answer
      → Appends old between answer → WritesLarge chart read between new → StopsShowing text deck old new told unreadable Unprinted
  shown_stops compiled chart read answer told between compiles same is_deck shows written writes =
      shown compiled compiles
      (record {
        read = read;
        is_deck = is_deck;
        answer = answer;
        shows = subst (λ (c : Chart). ShowsFaults c read told answer) same shows;
        large = writes.large;
        tells = subst (λ (c : Chart). TellsLarge c read writes.large) same writes.tells;
        written = Appends-trans _ _ _ _ _ written writes.written;
      })

-- nothing is wrong
pub shown_ok : (text : List ℕ) (deck old new : Option (List ℕ)) (compiled : Compilation) (chart : Chart) (read answer : List ℕ)
    → CompilesAs text compiled → chart ≡ compiled.chart → IfSome deck (λ known. read ≡ known) → ShowsNone chart read answer → Appends old new answer
    → ShowsOk text deck old new
shown_ok text deck old new compiled chart read answer compiles same is_deck shows written = record {
  compiled = compiled;
  compiles = compiles;
  read = read;
  is_deck = is_deck;
  answer = answer;
  shows = subst (λ (c : Chart). ShowsNone c read answer) same shows;
  written = written;
}
