-- Why the command on two texts doesn't end well, and which line is told by the status of what stopped it.
use Rattle.std.proofs.Common.{◌≡◌, ◌≢◌, ◌∙◌, ◌⊎◌, inl, inr, ap, arith, subst, ◌≤◌, ℕ, Bool, List, Option}
use Rattle.fault_lines.proofs.FaultsWords.Statuses.{memory_or_not}
use Rattle.fault_lines.specs.FaultsWords.Lines.{IsTold}
use Rattle.fault_lines.specs.FaultsWords.Status.{status_of}
use Rattle.fault_lines.specs.declared.faults.fault.Fault.{Fault}
use Rattle.fault_lines.specs.declared.faults.fault.Fault.TheVariants as fault
use Rattle.cli_matching.proofs.Refusing.{panels_refusal}
use Rattle.cli_matching.specs.Matched.{LeavesUnmatched, StopsMatch, memory_wanting, refused, unmatched, unwritten}
use Rattle.cli_matching.specs.Panels.{RefusesPanels}
use Rattle.cli_matching.specs.Unmatched.{IsToldUnmatched, unmatched_status}
use Rattle.cli_matching.specs.declared.match_texts.telling.Telling.{Telling}
use Rattle.cli_matching.specs.declared.unmatched.Unmatched.{Unmatched}
use Rattle.cli_matching.specs.declared.unmatched.Unmatched.TheVariants as why

module _ (telling : Telling) (chart wiring : List ℕ) (old new : Option (List ℕ)) (Unprinted : Type 0) where
  -- a text is refused, or memory was wanting for it
  pub texts_stop : (met : Fault) (told : Unmatched) → (met ≢ fault.Memory → RefusesPanels chart wiring met) → told ≡ why.Failed met
      → Unprinted → StopsMatch telling chart wiring told old new Unprinted
  texts_stop met told refuses same unprinted = by (memory_or_not met)
    where
      by : (met ≡ fault.Memory) ⊎ (met ≢ fault.Memory) → StopsMatch telling chart wiring told old new Unprinted
      by (inl is) = memory_wanting (same ∙ ap why.Failed is)
      by (inr not_memory) =
          unmatched (ap unmatched_status same ∙ panels_refusal chart wiring met (refuses not_memory) not_memory)
          (refused met same (refuses not_memory) unprinted)

  -- memory was wanting for what is found
  pub memory_stops : (met : Fault) (told : Unmatched) → met ≡ fault.Memory → told ≡ why.Failed met
      → StopsMatch telling chart wiring told old new Unprinted
  memory_stops met told is same = memory_wanting (same ∙ ap why.Failed is)

  -- the output can't be written
  pub output_stops : (met : Fault) (told : Unmatched) → (met ≡ fault.Memory) ⊎ (met ≡ fault.Write) → told ≡ why.Failed met
      → StopsMatch telling chart wiring told old new Unprinted
  output_stops met told (inl is) same = memory_wanting (same ∙ ap why.Failed is)
  output_stops met told (inr is) same = unwritten (same ∙ ap why.Failed is)

-- which line is told
module _ (telling : Telling) (chart wiring : List ℕ) (told : Unmatched) (before after : Option (List ℕ)) (Unprinted : Type 0) (status : ℕ) (is_told : Bool)
    (old new : Option (List ℕ)) (stops : StopsMatch telling chart wiring told before after Unprinted) (is_status : status ≡ unmatched_status told)
    (line : IsToldUnmatched told is_told old new) where
  line_of : (cause : Fault) → told ≡ why.Failed cause → IsTold cause is_told old new
  line_of cause is = subst (λ (of : Unmatched). IsToldUnmatched of is_told old new) is line

  status_by : (cause : Fault) → told ≡ why.Failed cause → status ≡ status_of cause
  status_by cause is = is_status ∙ ap unmatched_status is

  pub match_unmatched : status ≡ 3
      → (of : Unmatched) × LeavesUnmatched telling chart wiring of before after Unprinted × IsToldUnmatched of is_told old new
  match_unmatched three = by stops
    where
      by : StopsMatch telling chart wiring told before after Unprinted
          → (of : Unmatched) × LeavesUnmatched telling chart wiring of before after Unprinted × IsToldUnmatched of is_told old new
      by (unmatched of_three leaves) = (told, leaves, line)
      by (unwritten is) = absurd (omega (arith, status_by fault.Write is, three))
      by (memory_wanting is) = absurd (omega (arith, status_by fault.Memory is, three))

  pub match_output : status ≡ 4 → IsTold fault.Write is_told old new
  match_output four = by stops
    where
      by : StopsMatch telling chart wiring told before after Unprinted → IsTold fault.Write is_told old new
      by (unmatched of_three leaves) = absurd (omega (arith, is_status, of_three, four))
      by (unwritten is) = line_of fault.Write is
      by (memory_wanting is) = absurd (omega (arith, status_by fault.Memory is, four))

  pub match_memory : status ≡ 5 → IsTold fault.Memory is_told old new
  match_memory five = by stops
    where
      by : StopsMatch telling chart wiring told before after Unprinted → IsTold fault.Memory is_told old new
      by (unmatched of_three leaves) = absurd (omega (arith, is_status, of_three, five))
      by (unwritten is) = absurd (omega (arith, status_by fault.Write is, five))
      by (memory_wanting is) = line_of fault.Memory is

  pub match_status : (status ≡ 0) ⊎ (3 ≤ status × status ≤ 5)
  match_status = by stops
    where
      by : StopsMatch telling chart wiring told before after Unprinted → (status ≡ 0) ⊎ (3 ≤ status × status ≤ 5)
      by (unmatched of_three leaves) = inr (omega (arith, is_status, of_three), omega (arith, is_status, of_three))
      by (unwritten is) = inr (omega (arith, status_by fault.Write is), omega (arith, status_by fault.Write is))
      by (memory_wanting is) = inr (omega (arith, status_by fault.Memory is), omega (arith, status_by fault.Memory is))
