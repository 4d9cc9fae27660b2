-- The totals of an amount, and what each is asked to do in a cycle. A card goes into the lowest total. In the program cycles of
-- its level a total tests its balance, turns a negative balance into its figure, and shows and clears what it holds; the next
-- higher total adds or subtracts the figure.
use Rattle.std.specs.Prelude.{◌≡◌, ℕ, zero, suc, ◌+◌, ◌^◌, ◌≤◌, ◌<◌, ◌==◌, Bool, true, ◌&&◌, if◌then◌else◌}
use Rattle.proof_cycles.specs.TotalsWords.CounterCycles.Acts.{Act, Held, held_after}
use Rattle.proof_cycles.specs.TotalsWords.CounterCycles.Acts.Act.{Still, Test, Turn, Show, Plus, Minus}
use Rattle.net.specs.declared.cycle.Ordinal.{Ordinal}
use Rattle.net.specs.declared.cycle.Ordinal.TheVariants.{First, Second, Third}

-- An amount of a chart by levels, 1 the lowest: whether it has a sign, at which levels it has a total, how many digits each of its
-- totals may take, and how many positions the counter group of each total has.
pub record Amount : Type 0 where
  pub is_signed : Bool
  pub has : ℕ → Bool
  pub digits : ℕ → ℕ
  pub width : ℕ → ℕ

-- Cycles as the totals of an amount tell them apart: a card with the size of the amount on it, negated or not; a program cycle of
-- a level; any other.
pub data Kind : Type 0 where
  Entry : (is_negated : Bool) (size : ℕ) → Kind
  Prog : (level : ℕ) → Ordinal → Kind
  Other : Kind

-- the next lower level that has a total, 0 if there is none
abbrev pub lower : (has : ℕ → Bool) (level : ℕ) → ℕ
lower has zero = 0
lower has (suc level) = if has level then level else lower has level

-- a number is subtracted where it is negative, and else added
abbrev pub posted : (is_negative : Bool) (number : ℕ) → Act
posted is_negative number = if is_negative then Minus number else Plus number

-- what a total is asked in a cycle of a kind
abbrev pub total_act : Amount → Kind → (ℕ → Held) → (level : ℕ) → Act
total_act amount (Entry is_negated size) state level =
    if lower amount.has level == 0 then posted (amount.is_signed && is_negated) size else Still
total_act amount (Prog ended First) state level = if amount.is_signed && (ended == level) then Test else Still
total_act amount (Prog ended Second) state level =
    if amount.is_signed && ((ended == level) && (state level).latch) then Turn else Still
total_act amount (Prog ended Third) state level =
    if ended == level
    then Show
    else if amount.has ended && (lower amount.has level == ended)
    then posted (amount.is_signed && (state ended).latch) (state ended).number
    else Still
total_act amount Other state level = Still

-- what is asked at a level; nothing where the amount has no total there
abbrev pub act_of : Amount → Kind → (ℕ → Held) → (level : ℕ) → Act
act_of amount kind state level = if amount.has level then total_act amount kind state level else Still

-- what the totals hold after a cycle of a kind
abbrev pub state_after : Amount → Kind → (ℕ → Held) → ℕ → Held
state_after amount kind state level =
    held_after amount.is_signed (amount.width level) (act_of amount kind state level) (state level)

-- the positions that a counter group has beyond the digits of its total: one for the sign
abbrev pub sign_positions : (is_signed : Bool) → ℕ
sign_positions is_signed = if is_signed then 1 else 0

-- Each total has a counter group with room for its digits and its sign, and no total takes fewer digits than a lower one.
pub record HasGroups (amount : Amount) : Type 0 where
  pub room : (level : ℕ) → 1 ≤ level → amount.has level ≡ true
      → amount.digits level + sign_positions amount.is_signed ≤ amount.width level
  pub growing : (low high : ℕ) → 1 ≤ low → low < high → amount.has low ≡ true → amount.has high ≡ true
      → amount.digits low ≤ amount.digits high

-- An amount on a card has no more digits than each of its totals, and is negated only if it has a sign.
pub record IsOnCard (amount : Amount) (is_negated : Bool) (size : ℕ) : Type 0 where
  pub small : (level : ℕ) → 1 ≤ level → amount.has level ≡ true → size < 10 ^ amount.digits level
  pub negated : is_negated ≡ true → amount.is_signed ≡ true

-- What is entered in a cycle of a kind has no more digits than it may: the amount of a card, and what the total that goes up holds.
abbrev pub IsSmall : Amount → Kind → (ℕ → Held) → Type 0
IsSmall amount (Entry is_negated size) state = IsOnCard amount is_negated size
IsSmall amount (Prog ended Third) state =
    (1 ≤ ended) × (amount.has ended ≡ true → (state ended).number < 10 ^ amount.digits ended)
IsSmall amount kind state = Unit {0}
