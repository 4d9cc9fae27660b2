-- What follows of a result where it is one.
use Rattle.std.proofs.Common.{Err, IfOk, Ok, Result}

pub if-ok : {T E : Type 0} (r : Result T E) (P Q : T → Type 0) → ((x : T) → P x → Q x) → IfOk r P → IfOk r Q
if-ok (Ok x) P Q f p = f x p
if-ok (Err e) P Q f p = tt
