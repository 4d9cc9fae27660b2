-- What a replay by orders writes, and what it tells if its deck can't be read.
use Rattle.std.proofs.Common.{◌≡◌, ◌≢◌, ◌⊎◌, inl, inr, subst, ℕ, List, [], Option, unwrap_or, IfSome}
use Rattle.std.specs.Io.KnownBytes.{Appends}
use Rattle.cli_commands.proofs.CommandsWords.ServedReplays.Refusing.{refusal_status}
use Rattle.cli_commands.specs.CommandsWords.ServedReplays.Refusals.{RefusesByOrders}
use Rattle.cli_commands.specs.CommandsWords.ServedReplays.Answers.{IsReplayByOrders}
use Rattle.cli_commands.specs.CommandsWords.ServedReplays.OrderedEnds.{IsRefusedByOrders, PrintsByOrders, PrintsServed}
use Rattle.fault_lines.specs.FaultsWords.Status.{status_of}
use Rattle.fault_lines.specs.declared.faults.fault.Fault.{Fault}
use Rattle.fault_lines.specs.declared.faults.fault.Fault.TheVariants as fault
use Rattle.fault_lines.proofs.ProgramIo.Fronting.{front_again}
use Rattle.fault_lines.proofs.ProgramIo.Refusing.{is_known, read_is_known}
use Rattle.fault_lines.proofs.ProgramIo.Stopping.{refused_on}
use Rattle.fault_lines.specs.ProgramIo.Fronts.{WritesFront}
use Rattle.machine_served.specs.declared.served_runs.counts.Counts.{Counts}

-- the wiring chart or the orders are refused whatever the deck is, which can't be read
pub refused_for_any : (text lines : List ℕ) (deck : Option (List ℕ)) (met told : Fault)
    → (met ≢ fault.Memory → (read : List ℕ) → RefusesByOrders text lines read met) → told ≡ met → status_of told ≡ 3
    → IsRefusedByOrders text lines deck told
refused_for_any text lines deck met told refuses same three =
    let read = unwrap_or deck [] in
    record {
      read = read;
      is_deck = is_known deck;
      refuses = refused_on (RefusesByOrders text lines read) (refusal_status text lines read) met told (λ not_memory. refuses not_memory read) same
          three;
    }

-- the pages in memory are written
pub served_in_memory : (text lines deck items bytes : List ℕ) (counts : Counts) (old after : Option (List ℕ)) → bytes ≡ items
    → IsReplayByOrders text lines deck items counts → Appends old after bytes → PrintsServed text lines deck counts old after
served_in_memory text lines deck items bytes counts old after same answers written =
    record { pages = items; answers = answers; written = subst (Appends old after) same written }

-- or the front of them, of the deck that was read
pub front_of_read : {Nothing : Type 0} {old new : Option (List ℕ)} (text lines read items : List ℕ) (deck : Option (List ℕ)) → read ≡ items
    → IfSome deck (λ known. items ≡ known) → Nothing ⊎ ((counts : Counts) × WritesFront (PrintsServed text lines read counts) old new)
    → Nothing ⊎ ((counts : Counts) × WritesFront (PrintsByOrders text lines deck counts) old new)
front_of_read text lines read items deck same is_deck (inl none) = inl none
front_of_read text lines read items deck same is_deck (inr front) =
    inr (
      front.0,
      front_again (λ after prints.
          record { read = read; is_deck = read_is_known deck read items same is_deck; prints = prints }) front.1,
    )
