-- Why no explanation is printed.
use Rattle.std.proofs.Common.{◌≡◌, ◌≢◌, ◌∙◌, ◌⊎◌, inl, inr, ap, arith, sym, subst, ℕ, List, [], Option, Some, Result, unwrap_or}
use Rattle.std.specs.Prelude.{IfErr, IfSome}
use Rattle.fault_lines.proofs.FaultsWords.Statuses.{memory_or_not}
use Rattle.fault_lines.specs.declared.faults.fault.Fault.{Fault}
use Rattle.fault_lines.specs.declared.faults.fault.Fault.TheVariants as fault
use Rattle.cli_commands.proofs.PanelGuides.RefusedTexts.{texts_status}
use Rattle.cli_commands.specs.PanelGuides.Explained.{IsUnexplained, RefusesTexts, no_line, no_wheel, nowhere, texts}
use Rattle.cli_commands.specs.PanelGuides.ExplainEnds.{LeavesUnexplained, StopsExplanation}
use Rattle.cli_commands.specs.PanelGuides.Unexplained.{unexplained_status}
use Rattle.cli_commands.specs.declared.panel_guides.place.Place.{Place}
use Rattle.cli_commands.specs.declared.panel_guides.unexplained.Unexplained.{Unexplained}
use Rattle.cli_commands.specs.declared.panel_guides.unexplained.Unexplained.TheVariants as why
use Rattle.fault_lines.proofs.ProgramIo.Refusing.{is_known}
use Rattle.fault_lines.proofs.ProgramIo.StoppingWith.{outcome_stops_again, texts_stop_with}

-- the fault that is told, where it is one
abbrev fault_in : Unexplained → Fault
fault_in (why.Failed inner) = inner
fault_in other = fault.Write

-- whether memory is told of
pub told_memory_or_not : (told : Unexplained) → (told ≡ why.Failed fault.Memory) ⊎ (told ≢ why.Failed fault.Memory)
told_memory_or_not (why.Failed met) = by (memory_or_not met)
  where
    by : (met ≡ fault.Memory) ⊎ (met ≢ fault.Memory) → (why.Failed met ≡ why.Failed fault.Memory) ⊎ (why.Failed met ≢ why.Failed fault.Memory)
    by (inl is) = inl (ap why.Failed is)
    by (inr apart) = inr (λ is. apart (ap fault_in is))
told_memory_or_not (why.NoSuchLine page line) =
    inr (λ is. let five : 3 ≡ 5 = ap unexplained_status is in omega (arith, five))
told_memory_or_not (why.NoSuchWheel wheel) =
    inr (λ is. let five : 3 ≡ 5 = ap unexplained_status is in omega (arith, five))

-- what is told of the texts or of a place has the status of refused input
unexplained_is_three : (text deck : List ℕ) (place : Place) (told : Unexplained) → IsUnexplained text deck place told
    → told ≢ why.Failed fault.Memory → unexplained_status told ≡ 3
unexplained_is_three text deck place told (texts met refuses same) not_memory =
    ap unexplained_status same ∙ texts_status text deck met refuses (λ is. not_memory (same ∙ ap why.Failed is))
unexplained_is_three text deck place told (nowhere wiring cards run (no_wheel none same)) not_memory = ap unexplained_status same
unexplained_is_three text deck place told (nowhere wiring cards run (no_line wheel none same)) not_memory = ap unexplained_status same

-- nothing is explained of the deck that was read, or memory is wanting
pub nothing_explained : (text : List ℕ) (deck : Option (List ℕ)) (read : List ℕ) → IfSome deck (λ known. read ≡ known)
    → (place : Place) (told : Unexplained) (unreadable : Fault) (Unprinted : Type 0)
    → (told ≢ why.Failed fault.Memory → IsUnexplained text read place told) → Unprinted
    → StopsExplanation text deck place told unreadable Unprinted
nothing_explained text deck read is_deck place told unreadable Unprinted is =
    texts_stop_with (told_memory_or_not told)
    (λ not_memory. (
      unexplained_is_three text read place told (is not_memory) not_memory,
      record { read = read; is_deck = is_deck; unexplained = is not_memory },
    ))

-- the text is refused whatever the deck is, which can't be read
pub refused_unread : (text : List ℕ) (deck : Option (List ℕ)) (place : Place) (met : Fault) (told : Unexplained) (unreadable : Fault)
    (Unprinted : Type 0) → (met ≢ fault.Memory → (read : List ℕ) → RefusesTexts text read met) → told ≡ why.Failed met → Unprinted
    → StopsExplanation text deck place told unreadable Unprinted
refused_unread text deck place met told unreadable Unprinted refuses same =
    nothing_explained text deck (unwrap_or deck []) (is_known deck) place told unreadable Unprinted
    (λ not_memory. texts met (refuses (λ is. not_memory (same ∙ ap why.Failed is)) (unwrap_or deck [])) same)

-- a deck that is known is the one in memory
pub stops_for : {X : Type 0} (result : Result X Unexplained) (text read items : List ℕ) (deck : Option (List ℕ)) (place : Place)
    (unreadable : Fault) (Unprinted : Type 0) → read ≡ items → IfSome deck (λ known. items ≡ known)
    → IfErr result (λ told. (any : Fault) → StopsExplanation text (Some read) place told any Unprinted)
    → IfErr result (λ told. StopsExplanation text deck place told unreadable Unprinted)
stops_for result text read items deck place unreadable Unprinted same is_deck =
    outcome_stops_again unexplained_status why.Failed result unreadable _ Unprinted (LeavesUnexplained text (Some read) place) (LeavesUnexplained text deck place)
    (λ told is. record {
      read = is.read;
      is_deck = subst (λ (bytes : List ℕ). IfSome deck (λ known. bytes ≡ known)) (sym (is.is_deck ∙ same)) is_deck;
      unexplained = is.unexplained;
    })
