-- Why a command was not carried out.
use Rattle.std.specs.Prelude.{◌≡◌, ℕ}
use Rattle.fault_lines.specs.FaultsWords.Status.{status_of}
use Rattle.fault_lines.specs.declared.faults.fault.Fault.{Fault}
use Rattle.fault_lines.specs.declared.faults.fault.Fault.TheVariants as fault

-- Why a command was not carried out: its texts are refused, or the deck can't be read, and nothing was printed; or the output can't be
-- written, or memory ran out. Each call says beside it that what was printed then is the front of its answer.
pub data Stops (told unreadable : Fault) (Unprinted : Type 0) : Type 0 where
  texts_refused : status_of told ≡ 3 → Unprinted → Stops told unreadable Unprinted
  deck_unread : told ≡ unreadable → Unprinted → Stops told unreadable Unprinted
  output_unwritten : told ≡ fault.Write → Stops told unreadable Unprinted
  memory_wanting : told ≡ fault.Memory → Stops told unreadable Unprinted

-- The same of a command that tells what it tells in words of its own, among them each fault, and that says what is refused and what was good
-- before a deck that can't be read.
pub data StopsWith {Told : Type 0} (status : Told → ℕ) (of_fault : Fault → Told) (told : Told) (unreadable : Fault)
    (Refused Good Unprinted : Type 0) : Type 0 where
  refused : status told ≡ 3 → Refused → Unprinted → StopsWith status of_fault told unreadable Refused Good Unprinted
  unread : told ≡ of_fault unreadable → Good → Unprinted → StopsWith status of_fault told unreadable Refused Good Unprinted
  unwritten : told ≡ of_fault fault.Write → StopsWith status of_fault told unreadable Refused Good Unprinted
  out_of_memory : told ≡ of_fault fault.Memory → StopsWith status of_fault told unreadable Refused Good Unprinted
