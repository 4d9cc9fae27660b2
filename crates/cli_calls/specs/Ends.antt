-- How a task ends, by its status, and what is told of it.
use Rattle.std.specs.Prelude.{◌≡◌, ◌≤◌, ◌⊎◌, ◌&&◌, ℕ, Bool, true, false, List, Option}
use Rattle.std.specs.Io.KnownBytes.{Appends}
use Rattle.cli_decks.specs.CheckCalls.Telling.{heads_list}
use Rattle.fault_lines.specs.FaultsWords.Lines.{IsTold}
use Rattle.fault_lines.specs.declared.faults.fault.Fault.{Fault}

-- what is so by each status: the task is done, its texts are refused, a device failed, or memory ran out
pub record ByStatus (status : ℕ) (Done Refused Failed Wanting : Type 0) : Type 0 where
  pub done : status ≡ 0 → Done
  pub refused : status ≡ 3 → Refused
  pub device : status ≡ 4 → Failed
  pub memory : status ≡ 5 → Wanting
  pub statuses : (status ≡ 0) ⊎ (3 ≤ status × status ≤ 5)

-- the same of a task of whose devices nothing is said
pub record DoneOrRefused (status : ℕ) (Done Refused : Type 0) : Type 0 where
  pub done : status ≡ 0 → Done
  pub refused : status ≡ 3 → Refused
  pub statuses : (status ≡ 0) ⊎ (3 ≤ status × status ≤ 5)

-- the task is done, or something stopped it, whatever that was
pub record DoneOrStopped (status : ℕ) (Done Stopped : Type 0) : Type 0 where
  pub done : status ≡ 0 → Done
  pub stopped : (status ≡ 0) ⊎ Stopped

-- the same by the statuses
pub record DoneOrAbove (status : ℕ) (Done Stopped : Type 0) : Type 0 where
  pub done : status ≡ 0 → Done
  pub stopped : 3 ≤ status → Stopped
  pub statuses : (status ≡ 0) ⊎ (3 ≤ status × status ≤ 5)

-- a line about the words is what a writer has taken, where it is told
abbrev pub IsWordsTold : (line : List ℕ) → Bool → (before after : Option (List ℕ)) → Type 0
IsWordsTold line is_told before after = is_told ≡ true → Appends before after line

-- a fault is told; but where a terminal shows it too as the head of a list it isn't told once more
pub record IsToldOnce (told : Fault) (shows_both is_told : Bool) (before after : Option (List ℕ)) (Untold : Type 0) : Type 0 where
  pub told_of : (shows_both && heads_list told) ≡ false → IsTold told is_told before after
  pub listed : (shows_both && heads_list told) ≡ true → (is_told ≡ true) × Untold
