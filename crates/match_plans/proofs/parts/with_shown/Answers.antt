use Rattle.std.proofs.Common.{◌≡◌, IfNone, IfOk, None, Ok, Err, Option, Result, subst}
use Rattle.match_plans.proofs.parts.with_shown.Goals as goal

-- what holds of each value holds where a call gave no error
ok-all : {T E : Type 0} (r : Result T E) (P : T → Type 0) → ((x : T) → P x) → IfOk r P
ok-all (Ok x) P each = each x
ok-all (Err e) P each = tt

-- what holds where an option has none
if-none : {X P : Type 0} (o : Option X) → o ≡ None → IfNone o P → P
if-none {X} {P} o is holds = subst (λ (each : Option X). IfNone each P) is holds

pub returns-in-None : goal.returns-in-None
returns-in-None c =
    ok-all c.with_near.result _ (λ told other its shows. absurd (if-none c.in_ok-shown.shown c.in-None.is c.in_ok-shown.ensures.none other its shows))
