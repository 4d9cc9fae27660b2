-- What is traced, and why no trace is printed.
use Rattle.std.proofs.Common.{◌≡◌, ◌≢◌, ◌∙◌, sym, subst, refl, ℕ, List, [], Option, Some, Result, Ok, Err, unwrap_or}
use Rattle.std.specs.Prelude.{IfErr, IfSome, OnOk}
use Rattle.fault_lines.proofs.FaultsWords.Statuses.{memory_or_not}
use Rattle.fault_lines.specs.FaultsWords.Status.{status_of}
use Rattle.fault_lines.specs.declared.faults.fault.Fault.{Fault}
use Rattle.fault_lines.specs.declared.faults.fault.Fault.TheVariants as fault
use Rattle.cli_commands.proofs.PanelGuides.RefusedTexts.{texts_status}
use Rattle.cli_commands.specs.PanelGuides.Explained.{RefusesTexts}
use Rattle.cli_commands.specs.PanelGuides.Panels.{IsRunOf}
use Rattle.fault_lines.proofs.ProgramIo.Refusing.{is_known}
use Rattle.fault_lines.proofs.ProgramIo.StoppingWith.{outcome_stops_again, texts_stop_with}
use Rattle.hubs.specs.SetupsWords.Wiring.{Wiring}
use Rattle.explain_words.specs.TracesWords.Tracing.{WritesTrace}
use Rattle.cli_commands.specs.PanelGuides.TraceCalls.TraceEnds.{LeavesUntraced, PrintsTrace, StopsTrace}

-- the trace of the cards on the panel is that of the text and the deck
pub traced : {X E : Type 0} (result : Result X E) (text deck : List ℕ) (slice cards : List (List ℕ)) (wiring : Wiring)
    (old new : Option (List ℕ)) → slice ≡ cards → IsRunOf text deck cards wiring → OnOk result (WritesTrace wiring slice old new)
    → OnOk result (PrintsTrace text (Some deck) old new)
traced (Ok _) text deck slice cards wiring old new same run writes = record {
  read = deck;
  is_deck = refl;
  trace = writes.trace;
  traced = record { wiring = wiring; cards = slice; run = subst (λ (c : List (List ℕ)). IsRunOf text deck c wiring) (sym same) run; is_trace = writes.is_trace };
  written = writes.written;
}
traced (Err _) text deck slice cards wiring old new same run writes = tt

-- the text or the deck that was read is refused, or memory is wanting
pub texts_stop : (text : List ℕ) (deck : Option (List ℕ)) (read : List ℕ) → IfSome deck (λ known. read ≡ known)
    → (met told unreadable : Fault) (Unprinted : Type 0) → (met ≢ fault.Memory → RefusesTexts text read met) → told ≡ met → Unprinted
    → StopsTrace text deck told unreadable Unprinted
texts_stop text deck read is_deck met told unreadable Unprinted refuses same =
    texts_stop_with (memory_or_not told)
    (λ not_memory.
    let of_told : RefusesTexts text read told = subst (RefusesTexts text read) (sym same) (refuses (λ is. not_memory (same ∙ is))) in
    (texts_status text read told of_told not_memory, record { read = read; is_deck = is_deck; refuses = of_told }))

-- the text is refused whatever the deck is, which can't be read
pub refused_unread : (text : List ℕ) (deck : Option (List ℕ)) (met told unreadable : Fault) (Unprinted : Type 0)
    → (met ≢ fault.Memory → (read : List ℕ) → RefusesTexts text read met) → told ≡ met → Unprinted
    → StopsTrace text deck told unreadable Unprinted
refused_unread text deck met told unreadable Unprinted refuses =
    texts_stop text deck (unwrap_or deck []) (is_known deck) met told unreadable Unprinted (λ not_memory. refuses not_memory (unwrap_or deck []))

-- a deck that is known is the one in memory
pub prints_for : {X E : Type 0} (result : Result X E) (text read items : List ℕ) (deck old new : Option (List ℕ)) → read ≡ items
    → IfSome deck (λ known. items ≡ known) → OnOk result (PrintsTrace text (Some read) old new) → OnOk result (PrintsTrace text deck old new)
prints_for (Ok _) text read items deck old new same is_deck is = record {
  read = is.read;
  is_deck = subst (λ (bytes : List ℕ). IfSome deck (λ known. bytes ≡ known)) (sym (is.is_deck ∙ same)) is_deck;
  trace = is.trace;
  traced = is.traced;
  written = is.written;
}
prints_for (Err _) text read items deck old new same is_deck is = tt

pub stops_for : {X : Type 0} (result : Result X Fault) (text read items : List ℕ) (deck : Option (List ℕ)) (unreadable : Fault)
    (Unprinted : Type 0) → read ≡ items → IfSome deck (λ known. items ≡ known)
    → IfErr result (λ told. (any : Fault) → StopsTrace text (Some read) told any Unprinted)
    → IfErr result (λ told. StopsTrace text deck told unreadable Unprinted)
stops_for result text read items deck unreadable Unprinted same is_deck =
    outcome_stops_again status_of (λ met. met) result unreadable _ Unprinted (LeavesUntraced text (Some read)) (LeavesUntraced text deck)
    (λ told is. record {
      read = is.read;
      is_deck = subst (λ (bytes : List ℕ). IfSome deck (λ known. bytes ≡ known)) (sym (is.is_deck ∙ same)) is_deck;
      refuses = is.refuses;
    })
