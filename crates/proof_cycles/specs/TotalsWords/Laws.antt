-- Laws of the totals of an amount.
use Rattle.std.specs.Prelude.{◌≡◌, ℕ, ◌+◌, ◌^◌, ◌≤◌, ◌<◌, ◌==◌, ℤ, pos, Bool, true, false, unsigned_abs}
use Rattle.std.specs.Int.{is_negative}
use Rattle.proof_cycles.specs.TotalsWords.CounterCycles.Acts.{Held, IsWithinGroup}
use Rattle.proof_cycles.specs.TotalsWords.CounterCycles.Acts.Act.{Show}
use Rattle.net.specs.declared.cycle.Ordinal.{Ordinal}
use Rattle.net.specs.declared.cycle.Ordinal.TheVariants.{First, Second, Third}
use Rattle.proof_cycles.specs.TotalsWords.Amounts.{Amount, Kind, HasGroups, IsOnCard, IsSmall, act_of, state_after}
use Rattle.proof_cycles.specs.TotalsWords.Amounts.Kind.{Entry, Prog}
use Rattle.proof_cycles.specs.TotalsWords.Standing.{StandsAll}
use Rattle.proof_cycles.specs.TotalsWords.Sums.{signed, with_card, cleared}

-- Before the first card, where all numbers are 0, each total stands for a sum of 0.
abbrev pub ZerosStand : Type 0
ZerosStand =
    (amount : Amount) (state : ℕ → Held) → ((level : ℕ) → (state level).number ≡ 0) → StandsAll amount (λ level. pos 0) state

-- A card adds the value of its amount to the sum of each level's group.
abbrev pub CardGoesIn : Type 0
CardGoesIn =
    (amount : Amount) (is_negated : Bool) (number : ℕ) (sum : ℕ → ℤ) (state : ℕ → Held)
    → HasGroups amount → IsOnCard amount is_negated number → StandsAll amount sum state
    → StandsAll amount (with_card (signed is_negated number) sum) (state_after amount (Entry is_negated number) state)

-- what the totals hold after the first two program cycles of a level
abbrev pub ready : Amount → (ended : ℕ) → (ℕ → Held) → ℕ → Held
ready amount ended state = state_after amount (Prog ended Second) (state_after amount (Prog ended First) state)

-- A group of a level ends. The groups of lower levels have ended before; the sum fits in the digits of the total; and the sum
-- of an amount without a sign isn't below 0.
pub record IsGroupEnd (amount : Amount) (ended : ℕ) (sum : ℕ → ℤ) : Type 0 where
  pub is_level : 1 ≤ ended
  pub lower_ended : (level : ℕ) → 1 ≤ level → level < ended → sum level ≡ pos 0
  pub fits : unsigned_abs (sum ended) < 10 ^ amount.digits ended
  pub unsigned : amount.is_signed ≡ false → is_negative (sum ended) ≡ false

-- What the three program cycles of a level make of its total. After the second it holds the size of its group's sum, and its latch is
-- set for a sum below 0 and reset for a sum above 0; for a sum of 0 it is set where that stood as all nines. In the third the total shows that
-- number, and after it the sums of the group and of those within it are cleared. The higher total has room for what goes up.
pub record IsShown (amount : Amount) (ended : ℕ) (sum : ℕ → ℤ) (state : ℕ → Held) : Type 0 where
  pub number : (ready amount ended state ended).number ≡ unsigned_abs (sum ended)
  pub below_zero : is_negative (sum ended) ≡ true → (ready amount ended state ended).latch ≡ true
  pub above_zero : amount.is_signed ≡ true → is_negative (sum ended) ≡ false → 1 ≤ unsigned_abs (sum ended)
      → (ready amount ended state ended).latch ≡ false
  pub at_zero : amount.is_signed ≡ true → unsigned_abs (sum ended) ≡ 0
      → (ready amount ended state ended).latch ≡ ((state ended).number + 1 == 10 ^ amount.width ended)
  pub shows : act_of amount (Prog ended Third) (ready amount ended state) ended ≡ Show
  pub room : IsSmall amount (Prog ended Third) (ready amount ended state)
  pub after : StandsAll amount (cleared ended sum) (state_after amount (Prog ended Third) (ready amount ended state))

-- At the end of a group whose level has a total, the total is shown and goes up.
abbrev pub TotalIsShown : Type 0
TotalIsShown =
    (amount : Amount) (ended : ℕ) (sum : ℕ → ℤ) (state : ℕ → Held) → HasGroups amount → amount.has ended ≡ true
    → IsGroupEnd amount ended sum → StandsAll amount sum state → IsShown amount ended sum state

-- The program cycles of a level without a total leave what the totals hold.
abbrev pub EmptyLevelPasses : Type 0
EmptyLevelPasses =
    (amount : Amount) (ended : ℕ) (order : Ordinal) (state : ℕ → Held) → amount.has ended ≡ false
    → state_after amount (Prog ended order) state ≡ state

-- At the end of a group whose level has no total, the totals stand for the cleared sums as they are.
abbrev pub EmptyLevelEnds : Type 0
EmptyLevelEnds =
    (amount : Amount) (ended : ℕ) (sum : ℕ → ℤ) (state : ℕ → Held) → 1 ≤ ended → amount.has ended ≡ false
    → ((level : ℕ) → 1 ≤ level → level < ended → sum level ≡ pos 0)
    → StandsAll amount sum state → StandsAll amount (cleared ended sum) state

-- What is asked of a counter group never has more digits than the group has positions.
abbrev pub GroupsHaveRoom : Type 0
GroupsHaveRoom =
    (amount : Amount) (kind : Kind) (state : ℕ → Held) → HasGroups amount → IsSmall amount kind state
    → (level : ℕ) → 1 ≤ level → IsWithinGroup (amount.width level) (act_of amount kind state level)
