-- A card goes into the lowest total of an amount; the others stand still.
use Rattle.std.proofs.Common.{◌≡◌, ◌∙◌, refl, sym, ap, ℕ, zero, suc, ◌^◌, ◌<◌, ◌≤◌, ◌==◌, Bool, true, false, ◌&&◌, ℤ, ◌+ℤ◌, ◌-ℤ◌, pos, if◌then◌else◌, arith}
use Rattle.std.proofs.lemmas.Bool.Decides.{nat_tests}
use Rattle.std.proofs.lemmas.Int.{ints}
use Rattle.proof_cycles.specs.TotalsWords.CounterCycles.Acts.{Held, number_after}
use Rattle.proof_cycles.specs.TotalsWords.CounterCycles.Acts.Act.{Still}
use Rattle.proof_cycles.proofs.TotalsWords.CounterCycles.DigitLemmas.{power-some}
use Rattle.proof_cycles.specs.TotalsWords.Amounts.{Amount, lower, posted, total_act}
use Rattle.proof_cycles.specs.TotalsWords.Amounts.Kind.{Entry}
use Rattle.proof_cycles.specs.TotalsWords.Laws.{CardGoesIn, ZerosStand}
use Rattle.proof_cycles.specs.TotalsWords.Standing.{Stands, StandsAll}
use Rattle.proof_cycles.specs.TotalsWords.Sums.{signed, sum_at, with_card}
use Rattle.proof_cycles.proofs.TotalsWords.Counting.{along, zero_stands}
use Rattle.proof_cycles.proofs.TotalsWords.Figures.{signed_ring, stands_posted}
use Rattle.proof_cycles.proofs.TotalsWords.Rooms.{digits_room}

-- only an amount with a sign is negated
negated_sign : (is_signed is_negated : Bool) → (is_negated ≡ true → is_signed ≡ true) → (is_signed && is_negated) ≡ is_negated
negated_sign true is_negated only = refl
negated_sign false true only = only refl
negated_sign false false only = refl

-- a total at one level
card_at : (is_signed is_negated : Bool) (power size : ℕ) (sum : ℕ → ℤ) (level low number : ℕ)
    → (is_negated ≡ true → is_signed ≡ true) → size < power
    → Stands is_signed power (sum level -ℤ sum_at sum low) number
    → Stands is_signed power
    (with_card (signed is_negated size) sum level -ℤ sum_at (with_card (signed is_negated size) sum) low)
    (number_after is_signed power (if low == 0 then posted (is_signed && is_negated) size else Still) number)
card_at is_signed is_negated power size sum level zero number only few stands =
    along is_signed power
    (ap (λ b. sum level -ℤ pos 0 +ℤ signed b size) (negated_sign is_signed is_negated only) ∙ moved (sum level) (signed is_negated size))
    refl
    (stands_posted is_signed (is_signed && is_negated) power number size (sum level -ℤ pos 0) (signed_ring is_signed is_negated)
    few stands)
  where
    moved : (a v : ℤ) → (a -ℤ pos 0) +ℤ v ≡ (a +ℤ v) -ℤ pos 0
    moved a v = omega (arith, ints)
card_at is_signed is_negated power size sum level (suc low) number only few stands =
    along is_signed power (both (sum level) (sum (suc low)) (signed is_negated size))
    (ap (λ b. number_after is_signed power (if b then posted (is_signed && is_negated) size else Still) number) (sym above)) stands
  where
    above : (suc low == 0) ≡ false
    above = grind (arith, nat_tests)

    both : (a b v : ℤ) → a -ℤ b ≡ (a +ℤ v) -ℤ (b +ℤ v)
    both a b v = omega (arith, ints)

pub card_goes : CardGoesIn
card_goes amount is_negated size sum state lawful on_card stands level some here =
    let power = 10 ^ amount.width level in
    along amount.is_signed power refl
    (ap (λ b. number_after amount.is_signed power
    (if b then total_act amount (Entry is_negated size) state level else Still) (state level).number) (sym here))
    (card_at amount.is_signed is_negated power size sum level (lower amount.has level) (state level).number on_card.negated
    (digits_room amount lawful level size some here (on_card.small level some here)) (stands level some here))

pub zeros : ZerosStand
zeros amount state none level some here =
    along amount.is_signed (10 ^ amount.width level) (nothing (lower amount.has level)) (sym (none level))
    (zero_stands amount.is_signed (10 ^ amount.width level) (power-some (amount.width level)))
  where
    nothing : (low : ℕ) → pos 0 ≡ pos 0 -ℤ sum_at (λ level. pos 0) low
    nothing zero = refl
    nothing (suc low) = refl

-- totals that stand for sums stand for any sums that are the same at levels 1 and up
pub equal_sums :
    (amount : Amount) (one other : ℕ → ℤ) (state : ℕ → Held) → ((level : ℕ) → 1 ≤ level → one level ≡ other level)
    → StandsAll amount one state → StandsAll amount other state
equal_sums amount one other state same stands level some here =
    along amount.is_signed (10 ^ amount.width level) (equal (lower amount.has level)) refl (stands level some here)
  where
    equal : (low : ℕ) → one level -ℤ sum_at one low ≡ other level -ℤ sum_at other low
    equal zero = ap (λ z. z -ℤ pos 0) (same level some)
    equal (suc low) = ap (λ z. z -ℤ one (suc low)) (same level some) ∙ ap (λ z. other level -ℤ z) (same (suc low) (omega arith))
