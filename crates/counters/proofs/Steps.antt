-- What is entered at a row.
use Rattle.std.proofs.Common.{ℕ, ◌≤◌, Bool, arith}
use Rattle.std.proofs.lemmas.Bool.Decides.{nat_tests}
use Rattle.counters.specs.Counters.{taken}

-- what is entered stays a digit
pub taken-digit : (row : ℕ) (test : Bool) (entered : ℕ) → row ≤ 9 → entered ≤ 9 → taken row test entered ≤ 9
taken-digit row test entered small digit = grind (arith, nat_tests, small, digit)
