-- The line that tells what was counted.
use Rattle.std.specs.Prelude.{◌≡◌, ◌⊎◌, ℕ, Bool, true, false, List, ◌++◌, Option, codes, decimal}
use Rattle.std.specs.Io.KnownBytes.{Appends}
use Rattle.machine_served.specs.declared.served_runs.counts.Counts.{Counts}

-- how many rounds were taken and how many hubs were seen, in decimal, and LF
abbrev pub counts_line : Counts → List ℕ
counts_line counts = codes "rounds " ++ decimal counts.rounds ++ codes " seen " ++ decimal counts.seen ++ codes "\n"

-- How the program ends that tells what was counted: the line was written and it has done what it was asked for; or the line can't be
-- written, or memory was wanting for it.
pub data EndsCounted (counts : Counts) (status : ℕ) (is_told : Bool) (old new : Option (List ℕ)) : Type 0 where
  counted : status ≡ 0 → is_told ≡ true → Appends old new (counts_line counts) → EndsCounted counts status is_told old new
  unwritten : (status ≡ 4) ⊎ (status ≡ 5) → is_told ≡ false → EndsCounted counts status is_told old new
