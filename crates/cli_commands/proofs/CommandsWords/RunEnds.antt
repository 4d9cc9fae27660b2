-- Which line and status the cause of a run that was not done has.
use Rattle.std.proofs.Common.{◌≡◌, ◌≢◌, ◌⊎◌, ◌≤◌, inl, inr, ap, subst, arith, ℕ, Bool, List, Option}
use Rattle.report_streams.specs.declared.card_lines.fault.ReadFault.{ReadFault}
use Rattle.report_streams.specs.declared.card_lines.fault.ReadFault.TheVariants as read
use Rattle.cli_commands.proofs.CommandsWords.Stopping.{chart_refusal}
use Rattle.cli_commands.specs.CommandsWords.Streamed.{EndsRun, IsToldOf, chart_refused, chart_unread, read_told, run_stopped}
use Rattle.fault_lines.proofs.FaultsWords.Statuses.{deck_status, memory_or_not, run_status}
use Rattle.fault_lines.specs.FaultsWords.Lines.{IsTold}
use Rattle.fault_lines.specs.FaultsWords.Status.{status_of}
use Rattle.fault_lines.specs.FaultsWords.ToldFaults.{deck_told, of_card, run_told}
use Rattle.fault_lines.specs.declared.faults.deck.RunFault.{RunFault}
use Rattle.fault_lines.specs.declared.faults.deck.RunFault.TheVariants as deck
use Rattle.fault_lines.specs.declared.faults.fault.Fault.{Fault}
use Rattle.fault_lines.specs.declared.faults.fault.Fault.TheVariants as fault
use Rattle.fault_lines.proofs.ProgramIo.Stopping.{named_status}
use Rattle.report_runs.specs.declared.fault.StreamCause.{StreamCause}
use Rattle.report_runs.specs.declared.fault.StreamCause.TheVariants as cause

-- what can be told of a run
data Tells (told : Fault) : Type 0 where
  refused : status_of told ≡ 3 → Tells told
  unread : (card : ℕ) → told ≡ fault.Unread card → Tells told
  unwritten : told ≡ fault.Write → Tells told
  memory : told ≡ fault.Memory → Tells told

refused_or_memory : (told : Fault) → (told ≢ fault.Memory → status_of told ≡ 3) → Tells told
refused_or_memory told three = by (memory_or_not told)
  where
    by : (told ≡ fault.Memory) ⊎ (told ≢ fault.Memory) → Tells told
    by (inl is) = memory is
    by (inr not_memory) = refused (three not_memory)

reading_tells : (unread : ReadFault) (told : Fault) → told ≡ read_told unread → Tells told
reading_tells (read.Deck of_deck) told named = refused_or_memory told (named_status deck_told deck_status of_deck told named)
reading_tells (read.Read line) told named = unread line named
reading_tells read.Failed told named = refused (ap status_of named)

run_tells : (of_run : RunFault) (told : Fault) → told ≡ run_told of_run → Tells told
run_tells of_run told named = refused_or_memory told (named_status run_told run_status of_run told named)

cause_tells : (met : StreamCause) (told : Fault) → IsToldOf met told → Tells told
cause_tells (cause.Card of_read) told named = reading_tells of_read told named
cause_tells (cause.Invalid invalid card) told named = run_tells (of_card invalid card) told named
cause_tells (cause.Misfit misfit) told named = run_tells (deck.DoesNotFit misfit.level misfit.name misfit.card) told named
cause_tells cause.Write told (inl is) = memory is
cause_tells cause.Write told (inr is) = unwritten is
cause_tells cause.Memory told named = memory named

ends_tell : {text : List ℕ} {reader left old new : Option (List ℕ)} {told : Fault} {Unprinted : Type 0}
    → EndsRun text reader left old new told Unprinted → Tells told
ends_tell {text = text} {told = told} (chart_refused refuses unprinted) = refused_or_memory told (chart_refusal text told refuses)
ends_tell (chart_unread is unprinted) = memory is
ends_tell {told = told} (run_stopped stops) = cause_tells stops.fault.cause told stops.named

-- the line that tells a fault tells it by another name
pub line_of : (told : Fault) (is_told : Bool) (before after : Option (List ℕ)) → IsTold told is_told before after → (met : Fault) → told ≡ met
    → IsTold met is_told before after
line_of told is_told before after line met is = subst (λ (of : Fault). IsTold of is_told before after) is line

-- which line is told by the status of what stopped a run
module _ {text : List ℕ} {reader left old new : Option (List ℕ)} (told : Fault) {Unprinted : Type 0} (status : ℕ) (is_told : Bool)
    (before after : Option (List ℕ)) (is_status : status ≡ status_of told) (line : IsTold told is_told before after) where
  -- a run: a card that was not read, or the output
  pub run_device : EndsRun text reader left old new told Unprinted → status ≡ 4
      → IsTold fault.Write is_told before after ⊎ ((card : ℕ) × IsTold (fault.Unread card) is_told before after)
  run_device ends four = by (ends_tell ends)
    where
      by : Tells told → IsTold fault.Write is_told before after ⊎ ((card : ℕ) × IsTold (fault.Unread card) is_told before after)
      by (refused three) = absurd (omega (arith, is_status, three, four))
      by (unread card is) = inr (card, line_of told is_told before after line (fault.Unread card) is)
      by (unwritten is) = inl (line_of told is_told before after line fault.Write is)
      by (memory is) = absurd (omega (arith, is_status, ap status_of is, four))

  pub run_memory : EndsRun text reader left old new told Unprinted → status ≡ 5 → IsTold fault.Memory is_told before after
  run_memory ends five = by (ends_tell ends)
    where
      by : Tells told → IsTold fault.Memory is_told before after
      by (refused three) = absurd (omega (arith, is_status, three, five))
      by (unread card is) = absurd (omega (arith, is_status, ap status_of is, five))
      by (unwritten is) = absurd (omega (arith, is_status, ap status_of is, five))
      by (memory is) = line_of told is_told before after line fault.Memory is

  pub run_ends_status : EndsRun text reader left old new told Unprinted → 3 ≤ status × status ≤ 5
  run_ends_status ends = by (ends_tell ends)
    where
      by : Tells told → 3 ≤ status × status ≤ 5
      by (refused three) = (omega (arith, is_status, three), omega (arith, is_status, three))
      by (unread card is) = (omega (arith, is_status, ap status_of is), omega (arith, is_status, ap status_of is))
      by (unwritten is) = (omega (arith, is_status, ap status_of is), omega (arith, is_status, ap status_of is))
      by (memory is) = (omega (arith, is_status, ap status_of is), omega (arith, is_status, ap status_of is))
