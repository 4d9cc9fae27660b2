-- What the number in a counter group stands for. A ring of nines takes a carry round, so that its numbers count modulo all nines;
-- other groups count modulo the power of ten of their positions.
use Rattle.std.specs.Prelude.{◌≡◌, ℕ, ◌+◌, ◌-◌, ◌*◌, ◌^◌, ◌≤◌, ◌<◌, ℤ, pos, ◌+ℤ◌, Bool, true, if◌then◌else◌}
use Rattle.proof_cycles.specs.TotalsWords.CounterCycles.Acts.{Held}
use Rattle.proof_cycles.specs.TotalsWords.Amounts.{Amount}
use Rattle.proof_cycles.specs.TotalsWords.Sums.{open_sum}

-- the number by which a group counts, where `power` is ten to as many as it has positions
abbrev pub modulus : (is_ring : Bool) (power : ℕ) → ℕ
modulus is_ring power = if is_ring then power - 1 else power

-- The number of a group stands for a sum: the two differ by rounds of the modulus, whatever the size of the sum.
pub record Stands (is_ring : Bool) (power : ℕ) (sum : ℤ) (number : ℕ) : Type 0 where
  pub up : ℕ
  pub down : ℕ
  pub small : number < power
  pub same : pos (number + up * modulus is_ring power) ≡ sum +ℤ pos (down * modulus is_ring power)

-- Each total of an amount stands for the sum of its group less that of the next lower total's group, which has not gone up yet.
abbrev pub StandsAll : Amount → (sum : ℕ → ℤ) → (ℕ → Held) → Type 0
StandsAll amount sum state =
    (level : ℕ) → 1 ≤ level → amount.has level ≡ true
    → Stands amount.is_signed (10 ^ amount.width level) (open_sum amount.has sum level) (state level).number
