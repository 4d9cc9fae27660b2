-- The front of a list, up to the first element that passes a test.
use Rattle.std.proofs.Common.{◌≡◌, ℕ, ◌≤◌, cond, ltb, Some, None, unwrap_or, arith}
use Rattle.std.proofs.lemmas.Bool.Decides.{nat_tests}

-- where the place of the first one is asked for, and the length taken where there is none
pub first_place_or_length : (n m : ℕ) → n ≤ m → unwrap_or (cond (ltb n m) (Some n) None) m ≡ n
first_place_or_length n m within = grind (arith, nat_tests)
