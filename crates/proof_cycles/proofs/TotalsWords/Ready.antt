-- The first two program cycles of a level: its own total is made ready, and the others stand still.
use Rattle.std.proofs.Common.{◌≡◌, ◌∙◌, refl, sym, ap, ℕ, ◌+◌, ◌-◌, ◌*◌, ◌^◌, ◌≤◌, ◌<◌, ◌==◌, nat_le, Bool, true, false, ◌&&◌, ℤ, if◌then◌else◌, arith, unsigned_abs}
use Rattle.std.specs.Int.{is_negative}
use Rattle.std.proofs.lemmas.Bool.{false≢true}
use Rattle.std.proofs.lemmas.Bool.Decides.{nat_tests}
use Rattle.proof_cycles.specs.TotalsWords.CounterCycles.Acts.{Held, held_after}
use Rattle.proof_cycles.specs.TotalsWords.CounterCycles.Acts.Act.{Still, Test, Turn}
use Rattle.counters.specs.Numbers.{left_number}
use Rattle.proof_cycles.specs.TotalsWords.Amounts.{Amount, sign_positions}
use Rattle.proof_cycles.specs.TotalsWords.Laws.{ready}
use Rattle.proof_cycles.specs.TotalsWords.Standing.{Stands}
use Rattle.proof_cycles.proofs.TotalsWords.Figures.{figured, plain_figure}
use Rattle.proof_cycles.proofs.TotalsWords.Rooms.{tenth_room, more_room}

-- what a total holds after a first cycle, by whether it is there, and whether its level is the ended one
abbrev first_of : (here same is_signed : Bool) (width : ℕ) → Held → Held
first_of here same is_signed width held =
    held_after is_signed width (if here then (if is_signed && same then Test else Still) else Still) held

-- what a total holds after a second cycle
abbrev second_of : (here same is_signed : Bool) (width : ℕ) → Held → Held
second_of here same is_signed width held =
    held_after is_signed width (if here then (if is_signed && (same && held.latch) then Turn else Still) else Still) held

abbrev ready_of : (here same is_signed : Bool) (width : ℕ) → Held → Held
ready_of here same is_signed width held = second_of here same is_signed width (first_of here same is_signed width held)

-- other levels stand still
passed_over : (here is_signed : Bool) (width : ℕ) (held : Held) → ready_of here false is_signed width held ≡ held
passed_over true true width held = refl
passed_over true false width held = refl
passed_over false is_signed width held = refl

pub ready_other : (amount : Amount) (ended : ℕ) (state : ℕ → Held) (level : ℕ) → (ended == level) ≡ false
    → ready amount ended state level ≡ state level
ready_other amount ended state level apart =
    ap (λ b. ready_of (amount.has level) b amount.is_signed (amount.width level) (state level)) apart
    ∙ passed_over (amount.has level) amount.is_signed (amount.width level) (state level)

-- the total of the ended level
ready_own : (amount : Amount) (ended : ℕ) (state : ℕ → Held) → amount.has ended ≡ true
    → ready amount ended state ended ≡ ready_of true true amount.is_signed (amount.width ended) (state ended)
ready_own amount ended state here =
    let same : (ended == ended) ≡ true = grind (arith, nat_tests) in
    ap (λ b. ready_of b (ended == ended) amount.is_signed (amount.width ended) (state ended)) here
    ∙ ap (λ b. ready_of true b amount.is_signed (amount.width ended) (state ended)) same

-- a total that is ready to be shown
pub record IsReady (is_signed : Bool) (power : ℕ) (sum : ℤ) (before held : Held) : Type 0 where
  pub number : held.number ≡ unsigned_abs sum
  pub below : is_negative sum ≡ true → held.latch ≡ true
  pub above : is_signed ≡ true → is_negative sum ≡ false → 1 ≤ unsigned_abs sum → held.latch ≡ false
  pub zero : is_signed ≡ true → unsigned_abs sum ≡ 0 → held.latch ≡ (before.number + 1 == power)

-- a second cycle keeps the latch, and turns what has it set
second-latch : (width : ℕ) (latch : Bool) (number : ℕ)
    → (second_of true true true width (record { number = number; latch = latch })).latch ≡ latch
second-latch width true number = refl
second-latch width false number = refl

second-number : (width : ℕ) (latch : Bool) (number : ℕ)
    → (second_of true true true width (record { number = number; latch = latch })).number
    ≡ (if latch then left_number true (10 ^ width) (10 ^ width - 1 - number) else number)
second-number width true number = refl
second-number width false number = refl

own_ready : (is_signed : Bool) (digits width : ℕ) (sum : ℤ) (held : Held) → digits + sign_positions is_signed ≤ width
    → unsigned_abs sum < 10 ^ digits → (is_signed ≡ false → is_negative sum ≡ false) → Stands is_signed (10 ^ width) sum held.number
    → IsReady is_signed (10 ^ width) sum held (ready_of true true is_signed width held)
own_ready true digits width sum held more few plain stands =
    let room = tenth_room digits width (unsigned_abs sum) more few in
    let told = figured room.0 (10 ^ width) held.number sum room.1 room.2 stands in
    let latch = second-latch width (nat_le (9 * 10 ^ width) (10 * held.number)) held.number in
    record {
      number = second-number width (nat_le (9 * 10 ^ width) (10 * held.number)) held.number ∙ told.figure;
      below = λ negative. latch ∙ told.below negative;
      above = λ signs positive some. latch ∙ told.above positive some;
      zero = λ signs none. latch ∙ told.zero none;
    }
own_ready false digits width sum held more few plain stands = record {
  number = plain_figure (10 ^ width) held.number sum (plain refl)
      (more_room digits width (unsigned_abs sum) (omega (arith, more)) few) stands;
  below = λ negative. absurd (false≢true (sym (plain refl) ∙ negative));
  above = λ signs positive some. absurd (false≢true signs);
  zero = λ signs none. absurd (false≢true signs);
}

pub is_ready : (amount : Amount) (ended : ℕ) (sum : ℤ) (state : ℕ → Held) → amount.has ended ≡ true
    → amount.digits ended + sign_positions amount.is_signed ≤ amount.width ended → unsigned_abs sum < 10 ^ amount.digits ended
    → (amount.is_signed ≡ false → is_negative sum ≡ false)
    → Stands amount.is_signed (10 ^ amount.width ended) sum (state ended).number
    → IsReady amount.is_signed (10 ^ amount.width ended) sum (state ended) (ready amount ended state ended)
is_ready amount ended sum state here more few plain stands =
    let is = own_ready amount.is_signed (amount.digits ended) (amount.width ended) sum (state ended) more few plain stands in
    let own = ready_own amount ended state here in
    record {
      number = ap (λ held. held.number) own ∙ is.number;
      below = λ negative. ap (λ held. held.latch) own ∙ is.below negative;
      above = λ signs positive some. ap (λ held. held.latch) own ∙ is.above signs positive some;
      zero = λ signs none. ap (λ held. held.latch) own ∙ is.zero signs none;
    }
