-- What was told of the keys that come back, by the text of the chart.
use Rattle.std.proofs.Common.{◌≡◌, ◌≢◌, ◌∙◌, ◌⊎◌, inl, inr, sym, subst, ℕ, List, ◌++◌, Option, Some, IfSome, Result, Ok, Err, IfErr, OnOk}
use Rattle.std.proofs.KnownBytes.{Appends-trans}
use Rattle.std.specs.Io.KnownBytes.{Appends}
use Rattle.card_code.specs.Deck.{Deck, IsDeckText}
use Rattle.chart_lines.specs.ChartsWords.Chart.{Chart}
use Rattle.cli_decks.proofs.CheckCalls.TakenBehind.{taken_behind, taken_before}
use Rattle.cli_decks.specs.CheckCalls.DeckChecks.Endings.{EndsCheck, WritesFine}
use Rattle.cli_decks.specs.CheckCalls.DeckChecks.Fine.{fine_told}
use Rattle.cli_decks.specs.CheckCalls.DeckChecks.HelperStanding.{BreaksOff}
use Rattle.cli_decks.specs.CheckCalls.Grouped.{EndsGrouped, PrintsGrouped, StopsGrouped, WritesGrouped, checked, listed, memory_wanting, refused, unread, unwritten}
use Rattle.cli_commands.proofs.CommandsWords.Refusing.{chart_refused as refused_chart}
use Rattle.cli_commands.specs.CommandsWords.Answers.{CompilesAs}
use Rattle.compile407.specs.ChartFaults.{HasChartFault}
use Rattle.compile407.specs.Compilation.{Compilation}
use Rattle.fault_lines.proofs.FaultsWords.Statuses.{memory_or_not}
use Rattle.fault_lines.specs.FaultsWords.ToldFaults.{chart_told}
use Rattle.fault_lines.specs.declared.faults.chart.ChartFault.{ChartFault}
use Rattle.fault_lines.specs.declared.faults.chart.ChartFault.TheVariants as chart
use Rattle.fault_lines.specs.declared.faults.fault.Fault.{Fault}
use Rattle.fault_lines.specs.declared.faults.fault.Fault.TheVariants as fault
use Rattle.cli_decks.specs.DeckNotes.KeyReturns.Words.{returns_told}

-- the text of a deck of which nothing is told
pub deck_text : (chart : Chart) (deck : List ℕ) (old new : Option (List ℕ)) → WritesFine chart (Some deck) old new → IsDeckText deck
deck_text chart deck old new writes = record { cards = writes.cards; deck = writes.fine.deck }

module _ (chart : Chart) (deck : List ℕ) (old mid : Option (List ℕ)) (writes : WritesFine chart (Some deck) old mid) where
  -- the keys were told too
  pub grouped_written : {X E : Type 0} (new : Option (List ℕ)) (text : List ℕ) (result : Result X E)
      → ((cards : List (List ℕ)) → Deck deck cards → text ≡ returns_told chart.lines cards) → OnOk result (Appends mid new text)
      → OnOk result (WritesGrouped chart deck old new)
  grouped_written new text (Ok x) is written = record {
    cards = writes.cards;
    fine = writes.fine;
    written =
        subst (λ (t : List ℕ). Appends old new (fine_told writes.cards ++ t)) (is writes.cards writes.fine.deck)
        (Appends-trans old mid new (fine_told writes.cards) text writes.written written);
  }
  grouped_written new text (Err e) is written = tt

  -- or a front of them
  pub grouped_broken : {X : Type 0} (new : Option (List ℕ)) (text : List ℕ) (result : Result X Fault)
      → ((cards : List (List ℕ)) → Deck deck cards → text ≡ returns_told chart.lines cards)
      → IfErr result (λ told. BreaksOff text mid new told)
      → IfErr result (λ told. EndsGrouped chart deck old new told)
  grouped_broken new text (Ok x) is breaks = tt
  grouped_broken new text (Err told) is breaks =
      unwritten writes.cards writes.fine
      (subst (λ (t : List ℕ). BreaksOff (fine_told writes.cards ++ t) old new told) (is writes.cards writes.fine.deck)
      (taken_behind (fine_told writes.cards) text old mid new told writes.written breaks))

  -- or none of them
  pub grouped_unbegun : (told : Fault) → (told ≡ fault.Memory) ⊎ (told ≡ fault.Write) → EndsGrouped chart deck old mid told
  grouped_unbegun told named =
      unwritten writes.cards writes.fine
      (taken_before (fine_told writes.cards) (returns_told chart.lines writes.cards) old mid told writes.written named)

-- the check has something to tell
pub check_ends : (chart : Chart) (deck : List ℕ) (old new : Option (List ℕ)) (met told : Fault) → EndsCheck chart (Some deck) old new met → told ≡ met
    → EndsGrouped chart deck old new told
check_ends chart deck old new met told ends same = checked (subst (EndsCheck chart (Some deck) old new) (sym same) ends)

module _ (text : List ℕ) (deck old new : Option (List ℕ)) (unreadable : Fault) (Unprinted : Type 0) where
  -- the chart is refused, or memory is wanting
  pub chart_ends : (cause : ChartFault) (told : Fault) → (cause ≢ chart.Memory → HasChartFault text cause) → told ≡ chart_told cause → Unprinted
      → StopsGrouped text deck old new told unreadable Unprinted
  chart_ends cause told has named unprinted = by (memory_or_not told)
    where
      by : (told ≡ fault.Memory) ⊎ (told ≢ fault.Memory) → StopsGrouped text deck old new told unreadable Unprinted
      by (inl is) = memory_wanting is unprinted
      by (inr not_memory) = refused (refused_chart text cause told has named not_memory) unprinted

  -- the deck can't be read
  pub reading_ends : (compiled : Compilation) (met told : Fault) → CompilesAs text compiled → (met ≡ fault.Memory) ⊎ (met ≡ unreadable)
      → told ≡ met → Unprinted → StopsGrouped text deck old new told unreadable Unprinted
  reading_ends compiled met told compiles (inl is) same unprinted = memory_wanting (same ∙ is) unprinted
  reading_ends compiled met told compiles (inr is) same unprinted = unread compiled compiles (same ∙ is) unprinted

module _ (text : List ℕ) (deck old new : Option (List ℕ)) (compiled : Compilation) (chart : Chart) (read : List ℕ)
    (compiles : CompilesAs text compiled) (same : chart ≡ compiled.chart) (is_deck : IfSome deck (λ known. read ≡ known)) where
  -- the deck was read, and nothing is wrong with it
  pub all_printed : {X E : Type 0} (result : Result X E) → OnOk result (WritesGrouped chart read old new) → OnOk result (PrintsGrouped text deck old new)
  all_printed (Ok x) writes = record {
    compiled = compiled;
    compiles = compiles;
    read = read;
    is_deck = is_deck;
    writes = subst (λ (c : Chart). WritesGrouped c read old new) same writes;
  }
  all_printed (Err e) writes = tt

  -- or something is told of it
  pub listing_ends : {X : Type 0} (unreadable : Fault) (Unprinted : Type 0) (result : Result X Fault)
      → IfErr result (λ told. EndsGrouped chart read old new told)
      → IfErr result (λ told. StopsGrouped text deck old new told unreadable Unprinted)
  listing_ends unreadable Unprinted (Ok x) ends = tt
  listing_ends unreadable Unprinted (Err told) ends =
      listed compiled compiles
      (record { read = read; is_deck = is_deck; ends = subst (λ (c : Chart). EndsGrouped c read old new told) same ends })
