-- The end of a group: its total shows and clears, and the next higher total takes what it showed.
use Rattle.std.proofs.Common.{◌≡◌, ◌∙◌, refl, sym, ap, ℕ, zero, suc, ◌^◌, ◌≤◌, ◌<◌, ◌==◌, Bool, true, false, ◌&&◌, ℤ, ◌+ℤ◌, ◌-ℤ◌, pos, if◌then◌else◌, arith, unsigned_abs}
use Rattle.std.specs.Int.{is_negative}
use Rattle.std.proofs.lemmas.Bool.Decides.{nat_tests}
use Rattle.std.proofs.lemmas.Int.{ints}
use Rattle.proof_cycles.specs.TotalsWords.CounterCycles.Acts.{Held, number_after}
use Rattle.proof_cycles.specs.TotalsWords.CounterCycles.Acts.Act.{Still, Show}
use Rattle.proof_cycles.proofs.TotalsWords.CounterCycles.DigitLemmas.{power-some}
use Rattle.net.specs.declared.cycle.Ordinal.TheVariants.{Third}
use Rattle.proof_cycles.specs.TotalsWords.Amounts.{Amount, HasGroups, lower, posted, act_of, total_act, state_after}
use Rattle.proof_cycles.specs.TotalsWords.Amounts.Kind.{Prog}
use Rattle.proof_cycles.specs.TotalsWords.Laws.{ready, IsGroupEnd, TotalIsShown, EmptyLevelEnds}
use Rattle.proof_cycles.specs.TotalsWords.Standing.{Stands, StandsAll}
use Rattle.proof_cycles.specs.TotalsWords.Sums.{signed, sum_at, open_sum, cleared}
use Rattle.proof_cycles.proofs.TotalsWords.Counting.{along, zero_stands}
use Rattle.proof_cycles.proofs.TotalsWords.Figures.{signed_ring, stands_posted, signed-size}
use Rattle.proof_cycles.proofs.TotalsWords.Levels.{lower_le, lower_less, lower_has, cleared_low, sum_at-cleared, cleared_other, sum_at-other}
use Rattle.proof_cycles.proofs.TotalsWords.Ready.{IsReady, is_ready, ready_other}
use Rattle.proof_cycles.proofs.TotalsWords.Rooms.{higher_room}

-- what the end of a group is told by
record Ending (amount : Amount) (ended : ℕ) (sum : ℕ → ℤ) (state : ℕ → Held) : Type 0 where
  lawful : HasGroups amount
  here : amount.has ended ≡ true
  ends : IsGroupEnd amount ended sum
  stands : StandsAll amount sum state
  is : IsReady amount.is_signed (10 ^ amount.width ended) (sum ended) (state ended) (ready amount ended state ended)

-- the sums of lower levels are 0 in either form
sum_at-low : (ended : ℕ) (sum : ℕ → ℤ) (level : ℕ) → ((low : ℕ) → 1 ≤ low → low < ended → sum low ≡ pos 0) → level < ended
    → sum_at sum level ≡ pos 0
sum_at-low ended sum zero before low = refl
sum_at-low ended sum (suc level) before low = before (suc level) (omega arith) low

-- a difference of two zeros
no_difference : (one other : ℤ) → one ≡ pos 0 → other ≡ pos 0 → pos 0 ≡ one -ℤ other
no_difference one other a b = omega (arith, ints, a, b)

less_nothing : (one other : ℤ) → other ≡ pos 0 → one -ℤ other ≡ one
less_nothing one other b = omega (arith, ints, b)

-- what goes up fills the difference
filled : (high low high' low' value : ℤ) → value ≡ low → high' ≡ high → low' ≡ pos 0 → (high -ℤ low) +ℤ value ≡ high' -ℤ low'
filled high low high' low' value v h l = omega (arith, ints, v, h, l)

-- equal sums have equal differences
same_difference : (a b c d : ℤ) → a ≡ c → b ≡ d → a -ℤ b ≡ c -ℤ d
same_difference a b c d e f = omega (arith, ints, e, f)

-- where the ended level is neither this one nor the next lower, the difference stays
kept : (has : ℕ → Bool) (ended : ℕ) (sum : ℕ → ℤ) (level : ℕ) → ((low : ℕ) → 1 ≤ low → low < ended → sum low ≡ pos 0)
    → 1 ≤ level → (ended == level) ≡ false → (lower has level == ended) ≡ false
    → open_sum has sum level ≡ open_sum has (cleared ended sum) level
kept has ended sum level before some apart apart_below =
    same_difference (sum level) (sum_at sum (lower has level)) (cleared ended sum level)
    (sum_at (cleared ended sum) (lower has level)) (sym (cleared_other ended sum level before some apart))
    (sym (sum_at-other ended sum (lower has level) before apart_below))

-- the sum of a level that isn't 0
sum_at-level : (sum : ℕ → ℤ) (level : ℕ) → 1 ≤ level → sum_at sum level ≡ sum level
sum_at-level sum zero some = absurd (omega (arith, some))
sum_at-level sum (suc level) some = refl

-- what goes up is the sum
value_up : (is_signed latch : Bool) (sum : ℤ) → (is_signed ≡ false → is_negative sum ≡ false)
    → (is_negative sum ≡ true → latch ≡ true) → (is_signed ≡ true → is_negative sum ≡ false → 1 ≤ unsigned_abs sum → latch ≡ false)
    → signed (is_signed && latch) (unsigned_abs sum) ≡ sum
value_up true latch sum plain below above = signed-size latch sum below (above refl)
value_up false latch sum plain below above =
    signed-size false sum (λ negative. sym (plain refl) ∙ negative) (λ positive some. refl)

-- the next higher total takes what the ended one showed
goes_up : (amount : Amount) (ended : ℕ) (sum : ℕ → ℤ) (state : ℕ → Held) → Ending amount ended sum state → (level : ℕ) → 1 ≤ level
    → amount.has level ≡ true → (ended == level) ≡ false → lower amount.has level ≡ ended
    → Stands amount.is_signed (10 ^ amount.width level) (open_sum amount.has (cleared ended sum) level)
    (number_after amount.is_signed (10 ^ amount.width level)
    (posted (amount.is_signed && (ready amount ended state ended).latch) (ready amount ended state ended).number)
    (ready amount ended state level).number)
goes_up amount ended sum state ending level some here apart next =
    let held = ready amount ended state ended in
    let is = ending.is in
    let ends = ending.ends in
    let negative = amount.is_signed && held.latch in
    let power = 10 ^ amount.width level in
    let less : ended < level = below_it (lower_less amount.has level some) in
    let few : held.number < 10 ^ amount.digits ended = shown_few is.number ends.fits in
    let value : signed negative held.number ≡ sum ended
    = ap (signed negative) is.number ∙ value_up amount.is_signed held.latch (sum ended) ends.unsigned is.below is.above in
    let low : sum_at sum (lower amount.has level) ≡ sum ended = ap (sum_at sum) next ∙ sum_at-level sum ended ends.is_level in
    let cleared_below : sum_at (cleared ended sum) (lower amount.has level) ≡ pos 0
    = sum_at-cleared ended sum (lower amount.has level) (not_above next) in
    let stood = along amount.is_signed power refl (ap (λ h. h.number) (sym (ready_other amount ended state level apart)))
    (ending.stands level some here) in
    along amount.is_signed power
    (filled (sum level) (sum_at sum (lower amount.has level)) (cleared ended sum level)
    (sum_at (cleared ended sum) (lower amount.has level)) (signed negative held.number)
    (value ∙ sym low) (cleared_other ended sum level ends.lower_ended some apart) cleared_below)
    refl
    (stands_posted amount.is_signed negative power (ready amount ended state level).number held.number
    (open_sum amount.has sum level) (signed_ring amount.is_signed held.latch)
    (higher_room amount ending.lawful ended level held.number ends.is_level less ending.here here few) stood)
  where
    below_it : lower amount.has level < level → ended < level
    below_it less = omega (arith, less, next)

    not_above : lower amount.has level ≡ ended → lower amount.has level ≤ ended
    not_above next = omega (arith, next)

    shown_few : (ready amount ended state ended).number ≡ unsigned_abs (sum ended) → unsigned_abs (sum ended) < 10 ^ amount.digits ended
        → (ready amount ended state ended).number < 10 ^ amount.digits ended
    shown_few number fits = omega (arith, number, fits)

-- the total of the ended level is cleared
clears : (amount : Amount) (ended : ℕ) (sum : ℕ → ℤ) (level : ℕ) → ended ≡ level
    → Stands amount.is_signed (10 ^ amount.width level) (open_sum amount.has (cleared ended sum) level) 0
clears amount ended sum level same =
    along amount.is_signed (10 ^ amount.width level)
    (no_difference (cleared ended sum level) (sum_at (cleared ended sum) (lower amount.has level))
    (cleared_low ended sum level (omega (arith, same)))
    (sum_at-cleared ended sum (lower amount.has level) (omega (arith, same, lower_le amount.has level))))
    refl (zero_stands amount.is_signed (10 ^ amount.width level) (power-some (amount.width level)))

-- a total after the third cycle, by whether its level is the ended one or the next higher
third_at : (amount : Amount) (ended : ℕ) (sum : ℕ → ℤ) (state : ℕ → Held) → Ending amount ended sum state → (level : ℕ) → 1 ≤ level
    → amount.has level ≡ true → (same : Bool) → (ended == level) ≡ same
    → (next : Bool) → (amount.has ended && (lower amount.has level == ended)) ≡ next
    → Stands amount.is_signed (10 ^ amount.width level) (open_sum amount.has (cleared ended sum) level)
    (number_after amount.is_signed (10 ^ amount.width level)
    (if same then Show else if next
    then posted (amount.is_signed && (ready amount ended state ended).latch) (ready amount ended state ended).number
    else Still)
    (ready amount ended state level).number)
third_at amount ended sum state ending level some here true same next e =
    clears amount ended sum level (grind (arith, nat_tests, same))
third_at amount ended sum state ending level some here false apart true e =
    goes_up amount ended sum state ending level some here apart (grind (arith, nat_tests, is_next))
  where
    is_next : (lower amount.has level == ended) ≡ true
    is_next = sym (ap (λ b. b && (lower amount.has level == ended)) ending.here) ∙ e
third_at amount ended sum state ending level some here false apart false e =
    along amount.is_signed (10 ^ amount.width level)
    (kept amount.has ended sum level ending.ends.lower_ended some apart not_next)
    (ap (λ h. h.number) (sym (ready_other amount ended state level apart)))
    (ending.stands level some here)
  where
    not_next : (lower amount.has level == ended) ≡ false
    not_next = sym (ap (λ b. b && (lower amount.has level == ended)) ending.here) ∙ e

-- all totals after the third cycle
after : (amount : Amount) (ended : ℕ) (sum : ℕ → ℤ) (state : ℕ → Held) → Ending amount ended sum state
    → StandsAll amount (cleared ended sum) (state_after amount (Prog ended Third) (ready amount ended state))
after amount ended sum state ending level some here =
    let before = ready amount ended state in
    along amount.is_signed (10 ^ amount.width level) refl
    (ap (λ b. number_after amount.is_signed (10 ^ amount.width level)
    (if b then total_act amount (Prog ended Third) before level else Still) (before level).number) (sym here))
    (third_at amount ended sum state ending level some here (ended == level) refl
    (amount.has ended && (lower amount.has level == ended)) refl)

-- the total of the ended level shows
shows : (amount : Amount) (ended : ℕ) (state : ℕ → Held) → amount.has ended ≡ true
    → act_of amount (Prog ended Third) state ended ≡ Show
shows amount ended state here =
    let same : (ended == ended) ≡ true = grind (arith, nat_tests) in
    ap (λ b. if b then total_act amount (Prog ended Third) state ended else Still) here
    ∙ ap (λ b. if b then Show else if amount.has ended && (lower amount.has ended == ended)
    then posted (amount.is_signed && (state ended).latch) (state ended).number else Still) same

-- what the total of the ended level stands for: there is nothing below it
own_sum : (amount : Amount) (ended : ℕ) (sum : ℕ → ℤ) → IsGroupEnd amount ended sum
    → open_sum amount.has sum ended ≡ sum ended
own_sum amount ended sum ends =
    less_nothing (sum ended) (sum_at sum (lower amount.has ended))
    (sum_at-low ended sum (lower amount.has ended) ends.lower_ended (lower_less amount.has ended ends.is_level))

pub total_shows : TotalIsShown
total_shows amount ended sum state lawful here ends stands =
    let own = along amount.is_signed (10 ^ amount.width ended) (own_sum amount ended sum ends) refl (stands ended ends.is_level here) in
    let is = is_ready amount ended (sum ended) state here (lawful.room ended ends.is_level here) ends.fits ends.unsigned own in
    let ending : Ending amount ended sum state
    = record { lawful = lawful; here = here; ends = ends; stands = stands; is = is } in
    record {
      number = is.number;
      below_zero = is.below;
      above_zero = is.above;
      at_zero = is.zero;
      shows = shows amount ended (ready amount ended state) here;
      room = (ends.is_level, λ there. omega (arith, is.number, ends.fits));
      after = after amount ended sum state ending;
    }

pub empty_ends : EmptyLevelEnds
empty_ends amount ended sum state level none before stands at some here =
    along amount.is_signed (10 ^ amount.width at)
    (kept amount.has ended sum at before some (apart (ended == at) refl) (apart_below (lower amount.has at == ended) refl))
    refl (stands at some here)
  where
    apart : (b : Bool) → (ended == at) ≡ b → b ≡ false
    apart false e = refl
    apart true e =
        let equal : ended ≡ at = grind (arith, nat_tests, e) in
        sym here ∙ ap amount.has (sym equal) ∙ none

    apart_below : (b : Bool) → (lower amount.has at == ended) ≡ b → b ≡ false
    apart_below false e = refl
    apart_below true e =
        let equal : lower amount.has at ≡ ended = grind (arith, nat_tests, e) in
        sym (lower_has amount.has at (omega (arith, equal, level))) ∙ ap amount.has equal ∙ none
