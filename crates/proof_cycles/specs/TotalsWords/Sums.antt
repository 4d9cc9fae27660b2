-- Sums of an amount by levels: for each level the sum over the cards of its group that has not ended yet.
use Rattle.std.specs.Prelude.{ℕ, zero, suc, nat_le, ℤ, pos, neg_ℤ, ◌+ℤ◌, ◌-ℤ◌, Bool, if◌then◌else◌}
use Rattle.proof_cycles.specs.TotalsWords.Amounts.{lower}

-- the number of a size, below 0 if it is negated
abbrev pub signed : (is_negated : Bool) (size : ℕ) → ℤ
signed is_negated size = if is_negated then neg_ℤ (pos size) else pos size

-- the sum at a level, and 0 at level 0, where no amount has a total
abbrev pub sum_at : (sum : ℕ → ℤ) (level : ℕ) → ℤ
sum_at sum zero = pos 0
sum_at sum (suc level) = sum (suc level)

-- what the total of a level stands for: the sum of its group less that of the next lower total's group, which has not gone up yet
abbrev pub open_sum : (has : ℕ → Bool) (sum : ℕ → ℤ) (level : ℕ) → ℤ
open_sum has sum level = sum level -ℤ sum_at sum (lower has level)

-- the sums with the value of a card added, as a card is in the groups of all levels
abbrev pub with_card : (value : ℤ) (sum : ℕ → ℤ) → ℕ → ℤ
with_card value sum level = sum level +ℤ value

-- the sums after the end of a group of a level, where the groups of that level and of lower ones begin again
abbrev pub cleared : (ended : ℕ) (sum : ℕ → ℤ) → ℕ → ℤ
cleared ended sum level = if nat_le level ended then pos 0 else sum level
