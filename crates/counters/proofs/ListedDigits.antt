-- Digits by position as lists.
use Rattle.std.proofs.Common.{◌≡◌, ◌∙◌, refl, ap, ℕ, zero, suc, ◌+◌, ◌≤◌, Bool, ◌∷◌, length, replicate, arith}
use Rattle.counters.specs.Counters.{all_taken, taken}
use Rattle.counters.specs.WholeCycles.{listed}

pub length-listed : (digit : ℕ → ℕ) (count : ℕ) → length (listed digit count) ≡ count
length-listed digit zero = refl
length-listed digit (suc count) = ap suc (length-listed digit count)

-- digits that are the same at each position are one list
pub listed-same : (one other : ℕ → ℕ) (count : ℕ) → ((position : ℕ) → 1 ≤ position → position ≤ count → one position ≡ other position)
    → listed one count ≡ listed other count
listed-same one other zero same = refl
listed-same one other (suc count) same =
    ap (λ d. d ∷ listed one count) (same (count + 1) (omega arith) (omega arith))
    ∙ ap (λ ds. other (count + 1) ∷ ds) (listed-same one other count (λ position from to. same position from (omega (arith, to))))

-- zeros, as a list of digits
pub zeros-listed : (count : ℕ) → replicate count 0 ≡ listed (λ position. 0) count
zeros-listed zero = refl
zeros-listed (suc count) = ap (λ ds. 0 ∷ ds) (zeros-listed count)

-- all positions at a row
pub all_taken-listed : (row : ℕ) (impulsed : ℕ → Bool) (digit : ℕ → ℕ) (count : ℕ)
    → all_taken row impulsed (listed digit count) ≡ listed (λ position. taken row (impulsed position) (digit position)) count
all_taken-listed row impulsed digit zero = refl
all_taken-listed row impulsed digit (suc count) =
    ap (λ n. taken row (impulsed (n + 1)) (digit (count + 1)) ∷ all_taken row impulsed (listed digit count)) (length-listed digit count)
    ∙ ap (λ ds. taken row (impulsed (count + 1)) (digit (count + 1)) ∷ ds) (all_taken-listed row impulsed digit count)
