-- Texts that gain one piece behind another.
use Rattle.std.proofs.Common.{◌≡◌, ◌∙◌, ap, ℕ, List, ◌++◌, append_assoc, Result, Ok, Err, OnOk}

-- a second piece
pub then_more : {U E : Type 0} (result : Result U E) (old mid new one other : List ℕ) → mid ≡ old ++ one → OnOk result (new ≡ mid ++ other)
    → OnOk result (new ≡ old ++ (one ++ other))
then_more (Ok x) old mid new one other first second = second ∙ ap (λ (l : List ℕ). l ++ other) first ∙ append_assoc old one other
then_more (Err e) old mid new one other first second = tt
