-- Room: what has few digits is below the power of a group that has more positions.
use Rattle.std.proofs.Common.{◌≡◌, ◌∙◌, ℕ, zero, suc, ◌+◌, ◌*◌, ◌^◌, ◌≤◌, ◌<◌, true, arith}
use Rattle.std.proofs.Math.Nat.{pow-succ', pow-le-pow_right}
use Rattle.proof_cycles.specs.TotalsWords.Amounts.{Amount, HasGroups}

-- more positions hold what fewer hold
pub more_room : (digits width number : ℕ) → digits ≤ width → number < 10 ^ digits → number < 10 ^ width
more_room digits width number more few = omega (arith, few, pow-le-pow_right {n = 10} (omega arith) more)

-- with a position more than its digits a number is below a tenth of the power
pub tenth_room : (digits width number : ℕ) → digits + 1 ≤ width → number < 10 ^ digits
    → (tenth : ℕ) × (10 ^ width ≡ tenth * 10) × (number < tenth)
tenth_room digits zero number more few = absurd (omega (arith, more))
tenth_room digits (suc width) number more few =
    let power : 10 ^ suc width ≡ 10 ^ width * 10 = pow-succ' 10 width ∙ omega arith in
    (10 ^ width, power, more_room digits width number (omega (arith, more)) few)

-- the digits of a total are in its group
pub digits_room : (amount : Amount) → HasGroups amount → (level number : ℕ) → 1 ≤ level → amount.has level ≡ true
    → number < 10 ^ amount.digits level → number < 10 ^ amount.width level
digits_room amount lawful level number some here few =
    more_room (amount.digits level) (amount.width level) number (omega (arith, lawful.room level some here)) few

-- the digits of a lower total are in the group of a higher one
pub higher_room : (amount : Amount) → HasGroups amount → (low high number : ℕ) → 1 ≤ low → low < high → amount.has low ≡ true
    → amount.has high ≡ true → number < 10 ^ amount.digits low → number < 10 ^ amount.width high
higher_room amount lawful low high number some less here there few =
    digits_room amount lawful high number (omega (arith, some, less)) there
    (more_room (amount.digits low) (amount.digits high) number (lawful.growing low high some less here there) few)
