-- How a page is written, and why none is.
use Rattle.std.proofs.Common.{◌≡◌, ◌≢◌, ◌∙◌, ap, sym, subst, ℕ, List, [], Option, Some, Result, unwrap_or}
use Rattle.std.specs.Prelude.{IfErr, IfSome}
use Rattle.std.specs.Io.KnownBytes.{Appends}
use Rattle.cli_calls.specs.BrowserPages.Asked.{LacksAsked}
use Rattle.cli_calls.specs.BrowserPages.ShowEnds.{LeavesUnshown, PrintsPage, PrintsPageOf, StopsShow}
use Rattle.cli_calls.specs.BrowserPages.Shown.{IsShown, IsUnshown, no_such_page, texts}
use Rattle.fault_lines.specs.declared.faults.fault.Fault.{Fault}
use Rattle.fault_lines.specs.declared.faults.fault.Fault.TheVariants as fault
use Rattle.cli_commands.proofs.PanelGuides.RefusedTexts.{texts_status}
use Rattle.cli_commands.proofs.PanelGuides.Stopping.{told_memory_or_not}
use Rattle.cli_commands.specs.PanelGuides.Explained.{RefusesTexts}
use Rattle.cli_commands.specs.PanelGuides.Panels.{IsRunOf}
use Rattle.cli_commands.specs.PanelGuides.Unexplained.{unexplained_status}
use Rattle.cli_commands.specs.declared.panel_guides.unexplained.Unexplained.{Unexplained}
use Rattle.cli_commands.specs.declared.panel_guides.unexplained.Unexplained.TheVariants as why
use Rattle.fault_lines.proofs.ProgramIo.Refusing.{is_known, read_is_known}
use Rattle.fault_lines.proofs.ProgramIo.StoppingWith.{outcome_stops_again, texts_stop_with}
use Rattle.hubs.specs.SetupsWords.Wiring.{Wiring}

-- the page in memory is written
pub page_written : (text deck : List ℕ) (around : Option ℕ) (page bytes : List ℕ) (old new : Option (List ℕ)) → IsShown text deck around page
    → bytes ≡ page → Appends old new bytes → PrintsPageOf text deck around old new
page_written text deck around page bytes old new shown same written =
    record { page = page; shown = shown; written = subst (Appends old new) same written }

-- that of the deck that was read
pub page_of_read : (text read items : List ℕ) (deck : Option (List ℕ)) (around : Option ℕ) (old new : Option (List ℕ)) → read ≡ items
    → IfSome deck (λ known. items ≡ known) → PrintsPageOf text read around old new → PrintsPage text deck around old new
page_of_read text read items deck around old new same is_deck prints =
    record { read = read; is_deck = read_is_known deck read items same is_deck; prints = prints }

module _ (text deck : List ℕ) (around : Option ℕ) where
  -- what is told of the texts
  pub texts_unshown : (met : Fault) (told : Unexplained) → (met ≢ fault.Memory → RefusesTexts text deck met) → told ≡ why.Failed met
      → told ≢ why.Failed fault.Memory → IsUnshown text deck around told
  texts_unshown met told refuses same not_memory = texts met (refuses (λ is. not_memory (same ∙ ap why.Failed is))) same

  -- what is told of a page that the run of the texts doesn't have
  pub asked_unshown : (wiring : Wiring) (slice cards : List (List ℕ)) → slice ≡ cards → IsRunOf text deck cards wiring
      → (met told : Unexplained) → (met ≢ why.Failed fault.Memory → LacksAsked wiring slice around met) → told ≡ met
      → told ≢ why.Failed fault.Memory → IsUnshown text deck around told
  asked_unshown wiring slice cards same run met told lacks is not_memory =
      no_such_page wiring cards run
      (subst (λ (of : List (List ℕ)). LacksAsked wiring of around told) same
      (subst (LacksAsked wiring slice around) (sym is) (lacks (λ memory. not_memory (is ∙ memory)))))

  -- it has the status of refused input
  unshown_is_three : (told : Unexplained) → IsUnshown text deck around told → told ≢ why.Failed fault.Memory → unexplained_status told ≡ 3
  unshown_is_three told (texts met refuses same) not_memory =
      ap unexplained_status same ∙ texts_status text deck met refuses (λ is. not_memory (same ∙ ap why.Failed is))
  unshown_is_three told (no_such_page wiring cards run lacks) not_memory = ap unexplained_status lacks.named

-- nothing is shown of the deck that was read, or memory is wanting
pub nothing_shown : (text : List ℕ) (deck : Option (List ℕ)) (read : List ℕ) → IfSome deck (λ known. read ≡ known)
    → (around : Option ℕ) (told : Unexplained) (unreadable : Fault) (Unprinted : Type 0)
    → (told ≢ why.Failed fault.Memory → IsUnshown text read around told) → Unprinted
    → StopsShow text deck around told unreadable Unprinted
nothing_shown text deck read is_deck around told unreadable Unprinted is =
    texts_stop_with (told_memory_or_not told)
    (λ not_memory. (
      unshown_is_three text read around told (is not_memory) not_memory,
      record { read = read; is_deck = is_deck; unshown = is not_memory },
    ))

-- the text is refused whatever the deck is, which can't be read
pub refused_unread : (text : List ℕ) (deck : Option (List ℕ)) (around : Option ℕ) (met : Fault) (told : Unexplained) (unreadable : Fault)
    (Unprinted : Type 0) → (met ≢ fault.Memory → (read : List ℕ) → RefusesTexts text read met) → told ≡ why.Failed met → Unprinted
    → StopsShow text deck around told unreadable Unprinted
refused_unread text deck around met told unreadable Unprinted refuses same =
    nothing_shown text deck (unwrap_or deck []) (is_known deck) around told unreadable Unprinted
    (texts_unshown text (unwrap_or deck []) around met told (λ not_memory. refuses not_memory (unwrap_or deck [])) same)

-- a deck that is known is the one in memory
pub stops_for : {X : Type 0} (result : Result X Unexplained) (text read items : List ℕ) (deck : Option (List ℕ)) (around : Option ℕ)
    (unreadable : Fault) (Unprinted : Type 0) → read ≡ items → IfSome deck (λ known. items ≡ known)
    → IfErr result (λ told. (any : Fault) → StopsShow text (Some read) around told any Unprinted)
    → IfErr result (λ told. StopsShow text deck around told unreadable Unprinted)
stops_for result text read items deck around unreadable Unprinted same is_deck =
    outcome_stops_again unexplained_status why.Failed result unreadable _ Unprinted (LeavesUnshown text (Some read) around)
    (LeavesUnshown text deck around)
    (λ told is. record {
      read = is.read;
      is_deck = subst (λ (bytes : List ℕ). IfSome deck (λ known. bytes ≡ known)) (sym (is.is_deck ∙ same)) is_deck;
      unshown = is.unshown;
    })
