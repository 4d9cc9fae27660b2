-- What a page is handed of a task.
use Rattle.std.specs.Prelude.{if◌then◌else◌, ◌≡◌, ◌≤◌, ◌==◌, ◌+◌, ℕ, Bool, true, false, List, [], Option, None, Some, codes, length, take, drop}
use Rattle.browser407.specs.declared.answer.Answer.{Answer}
use Rattle.cli_calls.specs.Does.{Does}
use Rattle.cli_tasks.specs.declared.task.Task.{Task}
use Rattle.fault_lines.specs.FaultsWords.Lines.{fault_text}
use Rattle.fault_lines.specs.declared.faults.fault.Fault.{Fault}

-- two texts stand in these bytes, the first one in front and the second right behind it
pub record StandIn (bytes text told : List ℕ) : Type 0 where
  pub front : take (length text) bytes ≡ text
  pub behind : take (length told) (drop (length text) bytes) ≡ told

-- The task is done with two writers that held nothing. The answer has its status, and tells how many bytes each writer holds then. If it fits,
-- they stand in the page's bytes; and it fits wherever there is room for them. The deck has no name but a hyphen, and no terminal shows both.
pub record HandsOut (task : Task) (text other deck bytes : List ℕ) (answer : Answer) : Type 0 where
  pub written : List ℕ
  pub told : List ℕ
  pub is_told : Bool
  pub unreadable : Fault
  pub named : fault_text unreadable ≡ codes "fault file -"
  pub does : Does (Some []) (Some written) (Some []) (Some told) (written ≡ []) (told ≡ [])
      (record { status = answer.status; is_told = is_told }) text other (Some deck) unreadable false task
  pub lengths : (answer.bytes ≡ length written) × (answer.told ≡ length told)
  pub stand : answer.fits ≡ true → StandIn bytes written told
  pub room : length written + length told ≤ length bytes → answer.fits ≡ true

-- nothing is written and nothing told, with the status of words that can't be obeyed
pub record HandsOutNothing (answer : Answer) : Type 0 where
  pub status : answer.status ≡ 2
  pub lengths : (answer.bytes ≡ 0) × (answer.told ≡ 0)
  pub fits : answer.fits ≡ true

-- a page that a number names: 0 names none
abbrev pub page_of : ℕ → Option ℕ
page_of number = if number == 0 then None else Some number
