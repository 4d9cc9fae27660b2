-- Which line and status each cause has of a command that tells what it tells in words of its own.
use Rattle.std.proofs.Common.{◌≡◌, ◌≢◌, ◌⊎◌, ◌≤◌, ◌∙◌, inl, inr, ap, subst, arith, ℕ, Bool, List, Option, Result, Ok, Err}
use Rattle.std.specs.Prelude.{IfErr}
use Rattle.fault_lines.specs.FaultsWords.Lines.{IsTold}
use Rattle.fault_lines.specs.FaultsWords.Status.{status_of}
use Rattle.fault_lines.specs.declared.faults.fault.Fault.{Fault}
use Rattle.fault_lines.specs.declared.faults.fault.Fault.TheVariants as fault
use Rattle.fault_lines.specs.ProgramIo.Stops.{StopsWith, out_of_memory, refused, unread, unwritten}

module _ {Told : Type 0} {status : Told → ℕ} {of_fault : Fault → Told} where
  -- what is refused is refused by another name
  pub stops_again : {told : Told} {unreadable : Fault} {Refused Again Good Unprinted : Type 0} → (Refused → Again)
      → StopsWith status of_fault told unreadable Refused Good Unprinted → StopsWith status of_fault told unreadable Again Good Unprinted
  stops_again again (refused three is unprinted) = refused three (again is) unprinted
  stops_again again (unread is good unprinted) = unread is good unprinted
  stops_again again (unwritten is) = unwritten is
  stops_again again (out_of_memory is) = out_of_memory is

  module _ {told : Told} {unreadable : Fault} {Refused Good Unprinted : Type 0} where
    -- the output can't be written
    pub output_stops_with : (met : Fault) → (met ≡ fault.Memory) ⊎ (met ≡ fault.Write) → told ≡ of_fault met
        → StopsWith status of_fault told unreadable Refused Good Unprinted
    output_stops_with met (inl is) same = out_of_memory (same ∙ ap of_fault is)
    output_stops_with met (inr is) same = unwritten (same ∙ ap of_fault is)

    -- the deck can't be read, or memory was wanting for it
    pub deck_stops_with : (met : Fault) → (met ≡ fault.Memory) ⊎ (met ≡ unreadable) → told ≡ of_fault met → Good → Unprinted
        → StopsWith status of_fault told unreadable Refused Good Unprinted
    deck_stops_with met (inl is) same good unprinted = out_of_memory (same ∙ ap of_fault is)
    deck_stops_with met (inr is) same good unprinted = unread (same ∙ ap of_fault is) good unprinted

    -- the texts are refused, or memory was wanting for them
    pub texts_stop_with : (told ≡ of_fault fault.Memory) ⊎ (told ≢ of_fault fault.Memory)
        → (told ≢ of_fault fault.Memory → (status told ≡ 3) × Refused) → Unprinted
        → StopsWith status of_fault told unreadable Refused Good Unprinted
    texts_stop_with (inl is) refuses unprinted = out_of_memory is
    texts_stop_with (inr not_memory) refuses unprinted = refused (refuses not_memory).0 (refuses not_memory).1 unprinted

  -- which line is told by the status of what stopped it
  module _ {told : Told} {unreadable : Fault} {Refused Good Unprinted : Type 0} (result : ℕ) (is_told : Bool) (old new : Option (List ℕ))
      (stops : StopsWith status of_fault told unreadable Refused Good Unprinted) (is_status : result ≡ status told)
      (IsToldIn : Told → Type 0) (line : IsToldIn told) (lines : (met : Fault) → IsToldIn (of_fault met) → IsTold met is_told old new)
      (statuses : (met : Fault) → status (of_fault met) ≡ status_of met) (path : status_of unreadable ≡ 4) where
    line_of : (met : Fault) → told ≡ of_fault met → IsTold met is_told old new
    line_of met is = lines met (subst IsToldIn is line)

    status_by : (met : Fault) → told ≡ of_fault met → result ≡ status_of met
    status_by met is = is_status ∙ ap status is ∙ statuses met

    pub refused_with : result ≡ 3 → Refused × Unprinted × IsToldIn told
    refused_with three = by stops
      where
        by : StopsWith status of_fault told unreadable Refused Good Unprinted → Refused × Unprinted × IsToldIn told
        by (refused of_three is unprinted) = (is, unprinted, line)
        by (unread is good unprinted) = absurd (omega (arith, status_by unreadable is, path, three))
        by (unwritten is) = absurd (omega (arith, status_by fault.Write is, three))
        by (out_of_memory is) = absurd (omega (arith, status_by fault.Memory is, three))

    pub device_with : result ≡ 4 → (Unprinted × Good × IsTold unreadable is_told old new) ⊎ IsTold fault.Write is_told old new
    device_with four = by stops
      where
        by : StopsWith status of_fault told unreadable Refused Good Unprinted
            → (Unprinted × Good × IsTold unreadable is_told old new) ⊎ IsTold fault.Write is_told old new
        by (refused of_three is unprinted) = absurd (omega (arith, is_status, of_three, four))
        by (unread is good unprinted) = inl (unprinted, good, line_of unreadable is)
        by (unwritten is) = inr (line_of fault.Write is)
        by (out_of_memory is) = absurd (omega (arith, status_by fault.Memory is, four))

    pub memory_with : result ≡ 5 → IsTold fault.Memory is_told old new
    memory_with five = by stops
      where
        by : StopsWith status of_fault told unreadable Refused Good Unprinted → IsTold fault.Memory is_told old new
        by (refused of_three is unprinted) = absurd (omega (arith, is_status, of_three, five))
        by (unread is good unprinted) = absurd (omega (arith, status_by unreadable is, path, five))
        by (unwritten is) = absurd (omega (arith, status_by fault.Write is, five))
        by (out_of_memory is) = line_of fault.Memory is

    pub status_with : (result ≡ 0) ⊎ (3 ≤ result × result ≤ 5)
    status_with = by stops
      where
        by : StopsWith status of_fault told unreadable Refused Good Unprinted → (result ≡ 0) ⊎ (3 ≤ result × result ≤ 5)
        by (refused of_three is unprinted) = inr (omega (arith, is_status, of_three), omega (arith, is_status, of_three))
        by (unread is good unprinted) = inr (omega (arith, status_by unreadable is, path), omega (arith, status_by unreadable is, path))
        by (unwritten is) = inr (omega (arith, status_by fault.Write is), omega (arith, status_by fault.Write is))
        by (out_of_memory is) = inr (omega (arith, status_by fault.Memory is), omega (arith, status_by fault.Memory is))

-- What is refused is refused by another name, of an outcome that stops whatever the deck's fault is
pub outcome_stops_again : {X Told : Type 0} (status : Told → ℕ) (of_fault : Fault → Told) (result : Result X Told) (unreadable : Fault) (Good Unprinted : Type 0)
    (Refused Again : Told → Type 0) → ((told : Told) → Refused told → Again told)
    → IfErr result (λ told. (any : Fault) → StopsWith status of_fault told any (Refused told) Good Unprinted)
    → IfErr result (λ told. StopsWith status of_fault told unreadable (Again told) Good Unprinted)
outcome_stops_again status of_fault (Ok _) unreadable Good Unprinted Refused Again again stops = tt
outcome_stops_again status of_fault (Err told) unreadable Good Unprinted Refused Again again stops = stops_again (again told) (stops unreadable)

-- what is told of the output, of an outcome that stops whatever the deck's fault is
pub outcome_output_stops : {X Told : Type 0} (status : Told → ℕ) (of_fault : Fault → Told) (result : Result X Told) (Refused : Told → Type 0) (Good Unprinted : Type 0)
    → IfErr result (λ told. (told ≡ of_fault fault.Memory) ⊎ (told ≡ of_fault fault.Write))
    → IfErr result (λ told. (unreadable : Fault) → StopsWith status of_fault told unreadable (Refused told) Good Unprinted)
outcome_output_stops status of_fault (Ok _) Refused Good Unprinted told = tt
outcome_output_stops status of_fault (Err told) Refused Good Unprinted (inl is) = λ unreadable. out_of_memory is
outcome_output_stops status of_fault (Err told) Refused Good Unprinted (inr is) = λ unreadable. unwritten is
