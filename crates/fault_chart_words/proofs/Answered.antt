-- What is so of a list is so of the one that is answered.
use Rattle.std.proofs.Common.{◌≡◌, List, Result, Ok, Err, IfOk, sym, subst}
use Rattle.fault_chart_words.specs.declared.listing.BrokenRule.{BrokenRule}

pub IfOk-list : {V E : Type 0} (items : V → List BrokenRule) (P : List BrokenRule → Type 0) (list : List BrokenRule) (answer : Result V E)
    → IfOk answer (λ v. items v ≡ list) → P list → IfOk answer (λ v. P (items v))
IfOk-list items P list (Ok v) is holds = subst P (sym is) holds
IfOk-list items P list (Err e) is holds = tt
