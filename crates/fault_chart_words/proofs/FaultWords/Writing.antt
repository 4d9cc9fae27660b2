-- Writing one text behind another.
use Rattle.std.proofs.Common.{ℕ, List, ◌++◌, Option, Result, Ok, Err, OnOk}
use Rattle.std.proofs.KnownBytes.{Appends-trans}
use Rattle.std.specs.Io.KnownBytes.{Appends}

-- what was written, and what the last call writes
pub then_writes : {U E : Type 0} (answer : Result U E) (old middle new : Option (List ℕ)) (one more : List ℕ) → Appends old middle one
    → OnOk answer (Appends middle new more) → OnOk answer (Appends old new (one ++ more))
then_writes (Ok done) old middle new one more first rest = Appends-trans old middle new one more first rest
then_writes (Err fault) old middle new one more first rest = tt
