-- Why commands stop, and which status each cause has.
use Rattle.std.proofs.Common.{◌≡◌, ◌≢◌, ◌⊎◌, ◌≤◌, inl, inr, ap, ◌∙◌, subst, sym, arith, ℕ, Bool, true, false, List, Option, Result, Ok, Err}
use Rattle.std.proofs.lemmas.Bool.{false≢true}
use Rattle.std.specs.Prelude.{IfErr}
use Rattle.fault_lines.proofs.FaultsWords.Statuses.{deck_status, memory_or_not, wiring_status}
use Rattle.fault_lines.specs.FaultsWords.Lines.{IsTold}
use Rattle.fault_lines.specs.FaultsWords.Status.{status_of}
use Rattle.fault_lines.specs.FaultsWords.ToldFaults.{deck_told, wiring_told}
use Rattle.fault_lines.specs.declared.faults.fault.Fault.{Fault}
use Rattle.fault_lines.specs.declared.faults.fault.Fault.TheVariants as fault
use Rattle.fault_lines.specs.ProgramIo.Refusals.{RefusesDeck}
use Rattle.fault_lines.specs.ProgramIo.Stops.{Stops, deck_unread, memory_wanting, output_unwritten, texts_refused}
use Rattle.wiring_text.specs.declared.fault.WiringFault.{WiringFault}

-- what is told of a cause has its status
pub named_status : {X : Type 0} (tell : X → Fault) → ((cause : X) → tell cause ≢ fault.Memory → status_of (tell cause) ≡ 3) → (cause : X)
    (told : Fault) → told ≡ tell cause → told ≢ fault.Memory → status_of told ≡ 3
named_status tell status cause told named not_memory = ap status_of named ∙ status cause (λ is. not_memory (named ∙ is))

pub deck_refusal : (deck : List ℕ) (told : Fault) → RefusesDeck deck told → told ≢ fault.Memory → status_of told ≡ 3
deck_refusal deck told refuses = named_status deck_told deck_status refuses.cause told refuses.named

module _ (told unreadable : Fault) (Unprinted : Type 0) where
  -- texts are refused, or memory is wanting
  pub stops_by_status : (told ≢ fault.Memory → status_of told ≡ 3) → Unprinted → Stops told unreadable Unprinted
  stops_by_status three unprinted = by (memory_or_not told)
    where
      by : (told ≡ fault.Memory) ⊎ (told ≢ fault.Memory) → Stops told unreadable Unprinted
      by (inl is) = memory_wanting is
      by (inr not_memory) = texts_refused (three not_memory) unprinted

  pub wiring_stops : (cause : WiringFault) → told ≡ wiring_told cause → Unprinted → Stops told unreadable Unprinted
  wiring_stops cause named = stops_by_status (named_status wiring_told wiring_status cause told named)

  pub unread_stops : (met : Fault) → (met ≡ fault.Memory) ⊎ (met ≡ unreadable) → told ≡ met → Unprinted → Stops told unreadable Unprinted
  unread_stops met (inl is) same unprinted = memory_wanting (same ∙ is)
  unread_stops met (inr is) same unprinted = deck_unread (same ∙ is) unprinted

  pub unwritten_stops : (told ≡ fault.Memory) ⊎ (told ≡ fault.Write) → Stops told unreadable Unprinted
  unwritten_stops (inl is) = memory_wanting is
  unwritten_stops (inr is) = output_unwritten is

-- what is told of the output
pub output_stops : {X : Type 0} (result : Result X Fault) (unreadable : Fault) (Unprinted : Type 0)
    → IfErr result (λ told. (told ≡ fault.Memory) ⊎ (told ≡ fault.Write)) → IfErr result (λ told. Stops told unreadable Unprinted)
output_stops (Ok _) unreadable Unprinted told = tt
output_stops (Err fault) unreadable Unprinted told = unwritten_stops fault unreadable Unprinted told

pub output_stops_any : {X : Type 0} (result : Result X Fault) (Unprinted : Type 0)
    → IfErr result (λ told. (told ≡ fault.Memory) ⊎ (told ≡ fault.Write))
    → IfErr result (λ told. (unreadable : Fault) → Stops told unreadable Unprinted)
output_stops_any (Ok _) Unprinted told = tt
output_stops_any (Err fault) Unprinted told = λ unreadable. unwritten_stops fault unreadable Unprinted told

-- what stops a command for any deck stops it for this one
pub stops_for_deck : {X : Type 0} (result : Result X Fault) (unreadable : Fault) (Unprinted : Type 0)
    → IfErr result (λ told. (any : Fault) → Stops told any Unprinted) → IfErr result (λ told. Stops told unreadable Unprinted)
stops_for_deck (Ok _) unreadable Unprinted stops = tt
stops_for_deck (Err _) unreadable Unprinted stops = stops unreadable

-- whether a file is told of
abbrev is_file : Fault → Bool
is_file (fault.File path) = true
is_file other = false

-- what stops a command whatever the deck's fault is, is no file that can't be read
pub no_file_stops : {path : _} (told : Fault) (Unprinted : Type 0) → Stops told fault.Memory Unprinted → told ≡ fault.File path → ⊥
no_file_stops told Unprinted (texts_refused three unprinted) is = omega (arith, three, ap status_of is)
no_file_stops told Unprinted (deck_unread memory unprinted) is = omega (arith, ap status_of memory, ap status_of is)
no_file_stops told Unprinted (output_unwritten write) is = false≢true (sym (ap is_file write) ∙ ap is_file is)
no_file_stops told Unprinted (memory_wanting memory) is = omega (arith, ap status_of memory, ap status_of is)

pub no_file : {X : Type 0} (result : Result X Fault) (path : _) (Unprinted Good : Type 0)
    → IfErr result (λ told. (unreadable : Fault) → Stops told unreadable Unprinted) → IfErr result (λ told. told ≡ fault.File path → Good)
no_file (Ok _) path Unprinted Good stops = tt
no_file (Err told) path Unprinted Good stops = λ is. absurd (no_file_stops told Unprinted (stops fault.Memory) is)

-- what is refused, but for want of memory, has the status of refused input
module _ (Refuses : Fault → Type 0) (three_of : (met : Fault) → Refuses met → met ≢ fault.Memory → status_of met ≡ 3) (met told : Fault)
    (refuses : met ≢ fault.Memory → Refuses met) (same : told ≡ met) where
  -- it is handed on as it was met
  pub refused_on : status_of told ≡ 3 → Refuses told
  refused_on three =
      subst Refuses (sym same)
      (refuses (λ is.
      let five : status_of met ≡ 5 = ap status_of is in
      omega (arith, sym (ap status_of same) ∙ three, five)))

  -- it stops a command, with nothing printed
  pub refusal_stops : (unreadable : Fault) (Unprinted : Type 0) → Unprinted → Stops told unreadable Unprinted
  refusal_stops unreadable Unprinted =
      stops_by_status told unreadable Unprinted (λ not_memory.
      let met_not_memory : met ≢ fault.Memory = λ is. not_memory (same ∙ is) in
      ap status_of same ∙ three_of met (refuses met_not_memory) met_not_memory)

-- which line is told by the status of what stopped a command
module _ (told unreadable : Fault) (Unprinted : Type 0) (status : ℕ) (is_told : Bool) (old new : Option (List ℕ))
    (stops : Stops told unreadable Unprinted) (is_status : status ≡ status_of told) (line : IsTold told is_told old new)
    (path : status_of unreadable ≡ 4) where
  line_of_cause : (cause : Fault) → told ≡ cause → IsTold cause is_told old new
  line_of_cause cause is = subst (λ (of : Fault). IsTold of is_told old new) is line

  -- of a deck that can't be read, if all before it is good, or of the output
  pub told_of_device : (Good : Type 0) → (told ≡ unreadable → Good) → status ≡ 4
      → (Unprinted × Good × IsTold unreadable is_told old new) ⊎ IsTold fault.Write is_told old new
  told_of_device Good good four = by stops
    where
      by : Stops told unreadable Unprinted → (Unprinted × Good × IsTold unreadable is_told old new) ⊎ IsTold fault.Write is_told old new
      by (texts_refused three unprinted) = absurd (omega (arith, is_status, three, four))
      by (deck_unread is unprinted) = inl (unprinted, good is, line_of_cause unreadable is)
      by (output_unwritten is) = inr (line_of_cause fault.Write is)
      by (memory_wanting is) = absurd (omega (arith, is_status, ap status_of is, four))

  pub told_of_memory : status ≡ 5 → IsTold fault.Memory is_told old new
  told_of_memory five = by stops
    where
      by : Stops told unreadable Unprinted → IsTold fault.Memory is_told old new
      by (texts_refused three unprinted) = absurd (omega (arith, is_status, three, five))
      by (deck_unread is unprinted) = absurd (omega (arith, is_status, ap status_of is, path, five))
      by (output_unwritten is) = absurd (omega (arith, is_status, ap status_of is, five))
      by (memory_wanting is) = line_of_cause fault.Memory is

  pub stopped_status : 3 ≤ status × status ≤ 5
  stopped_status = by stops
    where
      by : Stops told unreadable Unprinted → 3 ≤ status × status ≤ 5
      by (texts_refused three unprinted) = (omega (arith, is_status, three), omega (arith, is_status, three))
      by (deck_unread is unprinted) = (omega (arith, is_status, ap status_of is, path), omega (arith, is_status, ap status_of is, path))
      by (output_unwritten is) = (omega (arith, is_status, ap status_of is), omega (arith, is_status, ap status_of is))
      by (memory_wanting is) = (omega (arith, is_status, ap status_of is), omega (arith, is_status, ap status_of is))
