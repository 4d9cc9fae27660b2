-- Why the command with a deck doesn't end well, and which line is told by the status of what stopped it.
use Rattle.std.proofs.Common.{◌≡◌, ◌≢◌, ◌∙◌, ◌⊎◌, inl, inr, ap, arith, subst, ◌≤◌, ℕ, Bool, List, [], Option, IfSome, unwrap_or}
use Rattle.fault_lines.proofs.FaultsWords.Statuses.{memory_or_not}
use Rattle.fault_lines.specs.FaultsWords.Lines.{IsTold}
use Rattle.fault_lines.specs.FaultsWords.Status.{status_of}
use Rattle.fault_lines.specs.declared.faults.fault.Fault.{Fault}
use Rattle.fault_lines.specs.declared.faults.fault.Fault.TheVariants as fault
use Rattle.cli_matching.proofs.Refusing.{all_refusal}
use Rattle.cli_matching.specs.Decked.{LeavesOver, StopsOver, memory_wanting, refused, unmatched, unread, unwritten}
use Rattle.cli_matching.specs.Panels.{HasPanels, RefusesAll, RefusesPanels, of_panels}
use Rattle.cli_matching.specs.Unmatched.{IsToldUnmatched, unmatched_status}
use Rattle.cli_matching.specs.declared.unmatched.Unmatched.{Unmatched}
use Rattle.cli_matching.specs.declared.unmatched.Unmatched.TheVariants as why
use Rattle.fault_lines.proofs.ProgramIo.Refusing.{is_known}

module _ (chart wiring : List ℕ) (deck : Option (List ℕ)) (unreadable : Fault) (old new : Option (List ℕ)) (Unprinted : Type 0) where
  -- the fault of a text, with the deck that was read, or memory was wanting for it
  pub all_stop : (read : List ℕ) (met : Fault) (told : Unmatched) → IfSome deck (λ known. read ≡ known)
      → (met ≢ fault.Memory → RefusesAll chart wiring read met) → told ≡ why.Failed met → Unprinted
      → StopsOver chart wiring deck told unreadable old new Unprinted
  all_stop read met told is_deck refuses same unprinted = by (memory_or_not met)
    where
      by : (met ≡ fault.Memory) ⊎ (met ≢ fault.Memory) → StopsOver chart wiring deck told unreadable old new Unprinted
      by (inl is) = memory_wanting (same ∙ ap why.Failed is)
      by (inr not_memory) =
          unmatched (ap unmatched_status same ∙ all_refusal chart wiring read met (refuses not_memory) not_memory)
          (record { read = read; is_deck = is_deck; leaves = refused met same (refuses not_memory) unprinted })

  -- the fault of the chart or the wiring chart, whatever the deck is
  pub panels_stop : (met : Fault) (told : Unmatched) → (met ≢ fault.Memory → RefusesPanels chart wiring met) → told ≡ why.Failed met
      → Unprinted → StopsOver chart wiring deck told unreadable old new Unprinted
  panels_stop met told refuses same unprinted =
      all_stop (unwrap_or deck []) met told (is_known deck) (λ not_memory. of_panels (refuses not_memory)) same unprinted

  -- the deck can't be read
  pub deck_stops : (met : Fault) (told : Unmatched) → (met ≡ fault.Memory) ⊎ (met ≡ unreadable) → HasPanels chart wiring
      → told ≡ why.Failed met → Unprinted → StopsOver chart wiring deck told unreadable old new Unprinted
  deck_stops met told (inl is) panels same unprinted = memory_wanting (same ∙ ap why.Failed is)
  deck_stops met told (inr is) panels same unprinted = unread (same ∙ ap why.Failed is) panels unprinted

  -- the output can't be written
  pub output_stops_over : (met : Fault) (told : Unmatched) → (met ≡ fault.Memory) ⊎ (met ≡ fault.Write) → told ≡ why.Failed met
      → StopsOver chart wiring deck told unreadable old new Unprinted
  output_stops_over met told (inl is) same = memory_wanting (same ∙ ap why.Failed is)
  output_stops_over met told (inr is) same = unwritten (same ∙ ap why.Failed is)

-- which line is told
module _ (chart wiring : List ℕ) (deck : Option (List ℕ)) (told : Unmatched) (unreadable : Fault) (before after : Option (List ℕ))
    (Unprinted : Type 0) (status : ℕ) (is_told : Bool) (old new : Option (List ℕ))
    (stops : StopsOver chart wiring deck told unreadable before after Unprinted) (is_status : status ≡ unmatched_status told)
    (line : IsToldUnmatched told is_told old new) (path : status_of unreadable ≡ 4) where
  line_of : (cause : Fault) → told ≡ why.Failed cause → IsTold cause is_told old new
  line_of cause is = subst (λ (of : Unmatched). IsToldUnmatched of is_told old new) is line

  status_by : (cause : Fault) → told ≡ why.Failed cause → status ≡ status_of cause
  status_by cause is = is_status ∙ ap unmatched_status is

  pub over_unmatched : status ≡ 3
      → (of : Unmatched) × LeavesOver chart wiring deck of before after Unprinted × IsToldUnmatched of is_told old new
  over_unmatched three = by stops
    where
      by : StopsOver chart wiring deck told unreadable before after Unprinted
          → (of : Unmatched) × LeavesOver chart wiring deck of before after Unprinted × IsToldUnmatched of is_told old new
      by (unmatched of_three leaves) = (told, leaves, line)
      by (unread is panels unprinted) = absurd (omega (arith, status_by unreadable is, path, three))
      by (unwritten is) = absurd (omega (arith, status_by fault.Write is, three))
      by (memory_wanting is) = absurd (omega (arith, status_by fault.Memory is, three))

  pub over_device : status ≡ 4
      → (Unprinted × HasPanels chart wiring × IsTold unreadable is_told old new) ⊎ IsTold fault.Write is_told old new
  over_device four = by stops
    where
      by : StopsOver chart wiring deck told unreadable before after Unprinted
          → (Unprinted × HasPanels chart wiring × IsTold unreadable is_told old new) ⊎ IsTold fault.Write is_told old new
      by (unmatched of_three leaves) = absurd (omega (arith, is_status, of_three, four))
      by (unread is panels unprinted) = inl (unprinted, panels, line_of unreadable is)
      by (unwritten is) = inr (line_of fault.Write is)
      by (memory_wanting is) = absurd (omega (arith, status_by fault.Memory is, four))

  pub over_memory : status ≡ 5 → IsTold fault.Memory is_told old new
  over_memory five = by stops
    where
      by : StopsOver chart wiring deck told unreadable before after Unprinted → IsTold fault.Memory is_told old new
      by (unmatched of_three leaves) = absurd (omega (arith, is_status, of_three, five))
      by (unread is panels unprinted) = absurd (omega (arith, status_by unreadable is, path, five))
      by (unwritten is) = absurd (omega (arith, status_by fault.Write is, five))
      by (memory_wanting is) = line_of fault.Memory is

  pub over_status : (status ≡ 0) ⊎ (3 ≤ status × status ≤ 5)
  over_status = by stops
    where
      by : StopsOver chart wiring deck told unreadable before after Unprinted → (status ≡ 0) ⊎ (3 ≤ status × status ≤ 5)
      by (unmatched of_three leaves) = inr (omega (arith, is_status, of_three), omega (arith, is_status, of_three))
      by (unread is panels unprinted) =
          inr (omega (arith, status_by unreadable is, path), omega (arith, status_by unreadable is, path))
      by (unwritten is) = inr (omega (arith, status_by fault.Write is), omega (arith, status_by fault.Write is))
      by (memory_wanting is) = inr (omega (arith, status_by fault.Memory is), omega (arith, status_by fault.Memory is))
