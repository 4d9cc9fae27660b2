use Rattle.std.proofs.Common.{◌≡◌, reverse, take}
use Rattle.std.specs.Int.Digits.{number_from_digits_after}
use Rattle.explain_ledgers.proofs.ledgers.numbers.number_of.Given as goal

-- the digits that are left, after the number so far, make the number of all
abbrev pub invariant-loop-k : goal.invariant-loop-k
invariant-loop-k l =
    number_from_digits_after 10 l.number (reverse (take l.k l.digits)) ≡ number_from_digits_after 10 0 (reverse l.digits)
