-- The numbers that come to two groups as one add up.
use Rattle.std.proofs.Common.{◌≡◌, ◌∙◌, sym, ap, subst, refl, ℕ, zero, suc, append-nil, ◌+◌, ◌*◌, ◌-◌, ◌^◌, ◌<◌, ◌==◌, ◌&&◌, ◌||◌, not, Bool, true, false, List, [], ◌∷◌, ◌++◌, arith, if◌then◌else◌}
use Rattle.std.proofs.lemmas.Bool.{both_ways}
use Rattle.std.proofs.lemmas.Bool.Decides.{nat_tests}
use Rattle.std.proofs.lemmas.List.Sums.{sum_by-append, sum_by-cons}
use Rattle.std.proofs.lemmas.List.Elements.{All-append, All-head, All-nil}
use Rattle.std.specs.List.{All}
use Rattle.std.specs.Prelude.{sum_by}
use Rattle.counters.proofs.Cycles.{ended-sum}
use Rattle.counters.proofs.NumberLemmas.{number-lt}
use Rattle.counters.specs.Counters.{Counter, counter_ended, wheels_in, width_of}
use Rattle.counters.specs.Laws.{IsCounter, carry_number}
use Rattle.counters.specs.Numbers.{added_number, number, start_number}
use Rattle.counters.specs.Wheels.{carries_out}
use Rattle.hubs.specs.declared.hub.Group.{Group}
use Rattle.explain_ledgers.proofs.LedgersWords.Places.{comes-to, gained-all, left-all}
use Rattle.explain_ledgers.proofs.LedgersWords.Whole.{holds, in-cycle, number-zeros, start-group}
use Rattle.explain_ledgers.specs.LedgersWords.Coupled.{coupled_number}
use Rattle.explain_ledgers.specs.LedgersWords.Entries.{are_one, carry_leaves, change_of, entries_gained, entries_left, entry_of, is_added, is_cleared, is_turned, joined, ledger_after, movement_of_both, same}
use Rattle.explain_ledgers.specs.LedgersWords.Ledgers.{Along, IsLedger, IsSum, IsUnturned, begun, card_in, change_number, change_start, group_at, more, number_added, power_at}
use Rattle.explain_ledgers.specs.declared.ledgers.account.Account.TheVariants.{Coupled}
use Rattle.explain_ledgers.specs.declared.ledgers.entry.Change.{Change}
use Rattle.explain_ledgers.specs.declared.ledgers.entry.Change.TheVariants.{Plus, Minus, Turned, Carry, Apart}
use Rattle.explain_ledgers.specs.declared.ledgers.entry.Entry.{Entry}
use Rattle.explain_ledgers.specs.declared.ledgers.entry.Movement.{Movement}
use Rattle.machine.specs.Machine.{ended}
use Rattle.machine.specs.Runs.{run_at_start}
use Rattle.net.specs.declared.cycle.Cycle.{Cycle}
use Rattle.report_definition.proofs.FittingGroups.{All-parts}
use Rattle.hubs.specs.SetupsWords.Wiring.{Wiring}
use Rattle.proof_cycles.proofs.TotalsWords.CounterCycles.DigitLemmas.{number-within}
use Rattle.proof_laws.proofs.LedgerAmounts.Counters.{carries-on, power-is}
use Rattle.proof_laws.specs.LedgerAmounts.CoupledSums.{CoupledEntriesAreSums, CoupledLedgersAreSums, IsTogether, power_of_both}

-- two sums, of which the lower one carries into the upper one, are one sum
one-sum : (upper lower from_upper from_lower added_upper added_lower out between carry power power_lower : ℕ)
    → upper + out * power ≡ from_upper + added_upper + between → lower + between * power_lower ≡ from_lower + added_lower + carry
    → (upper * power_lower + lower) + out * (power * power_lower)
    ≡ (from_upper * power_lower + from_lower) + (added_upper * power_lower + added_lower) + carry
one-sum upper lower from_upper from_lower added_upper added_lower out between carry power power_lower above below =
    let scaled = ap (λ n. n * power_lower) above in omega (arith, scaled, below)

-- where two numbers begin as one
start-both : (read : Bool) (upper lower power : ℕ)
    → (if read then 0 else upper) * power + (if read then 0 else lower) ≡ (if read then 0 else upper * power + lower)
start-both true upper lower power = omega arith
start-both false upper lower power = refl

-- what two numbers lack of all nines, as one
lacking-both : (upper lower power power_lower : ℕ) → upper < power → lower < power_lower
    → (power - 1 - upper) * power_lower + (power_lower - 1 - lower) ≡ power * power_lower - 1 - (upper * power_lower + lower)
lacking-both upper lower power power_lower few fewer =
    let rest : power ≡ power - 1 - upper + upper + 1 = omega (arith, few) in
    by (power - 1 - upper) (power_lower - 1 - lower) rest (omega (arith, fewer))
  where
    by : (high low : ℕ) → power ≡ high + upper + 1 → power_lower ≡ low + lower + 1
        → high * power_lower + low ≡ power * power_lower - 1 - (upper * power_lower + lower)
    by high low above below =
        let scaled : power * power_lower ≡ high * power_lower + upper * power_lower + power_lower
        = ap (λ n. n * power_lower) above ∙ omega arith in
        omega (arith, scaled, below)

-- what is added to two numbers as one
added-both : (minus plus : Bool) (upper lower power power_lower : ℕ) → upper < power → lower < power_lower
    → (if minus then power - 1 - upper else if plus then upper else 0) * power_lower
    + (if minus then power_lower - 1 - lower else if plus then lower else 0)
    ≡ (if minus then power * power_lower - 1 - (upper * power_lower + lower) else if plus then upper * power_lower + lower else 0)
added-both true plus upper lower power power_lower few fewer = lacking-both upper lower power power_lower few fewer
added-both false true upper lower power power_lower few fewer = refl
added-both false false upper lower power power_lower few fewer = omega arith

-- the sums of the wheels and of the entry are the same
told-sum : (apart read minus turned plus : Bool) (held entered power : ℕ) → apart ≡ false
    → (if read then 0 else held) + (if minus then power - 1 - entered else if plus then entered else 0)
    ≡ change_start (if apart then Apart else if not apart && read && minus && turned then Turned else if minus then Minus else if plus then Plus else Carry)
    (if not apart && read && not (not apart && read && minus && turned) then 0 else held)
    + change_number power (if apart then Apart else if not apart && read && minus && turned then Turned else if minus then Minus else if plus then Plus else Carry)
    entered
told-sum true read minus turned plus held entered power is = absurd (both_ways true is refl)
told-sum false true true true plus held entered power is = refl
told-sum false true true false plus held entered power is = refl
told-sum false true false turned true held entered power is = refl
told-sum false true false turned false held entered power is = refl
told-sum false false true turned plus held entered power is = refl
told-sum false false false turned true held entered power is = refl
told-sum false false false turned false held entered power is = refl

same-is : (one other : Bool) → same one other ≡ true → one ≡ other
same-is true other is = sym is
same-is false true is = is
same-is false false is = refl

all-of : (a b c d : Bool) → ((a && b && c) && d) ≡ true → (a ≡ true) × (b ≡ true) × (c ≡ true) × (d ≡ true)
all-of a b c d is = (grind (arith, nat_tests, is), grind (arith, nat_tests, is), grind (arith, nat_tests, is), grind (arith, nat_tests, is))

not-apart : (one : Bool) → not one ≡ false → one ≡ true
not-apart true is = refl
not-apart false is = sym is

pub entered-within : (group : Counter) → IsCounter group → number group.entered < 10 ^ group.name.width
entered-within group lawful = subst (λ n. number group.entered < 10 ^ n) lawful.entries (number-lt group.entered lawful.entered)

-- An entry of two groups that did the same thing is a sum.
entry-both : (upper lower : Counter) (cycle : Cycle) (card passed power power_lower : ℕ) → IsCounter upper → IsCounter lower
    → 10 ^ upper.name.width ≡ power → 10 ^ lower.name.width ≡ power_lower → (movement_of_both upper lower cycle).apart ≡ false
    → IsSum (power * power_lower) (entry_of cycle card passed (movement_of_both upper lower cycle))
entry-both upper lower cycle card passed power power_lower lawful and_lawful is and_is together =
    let alike =
    all-of (same upper.controls.plus lower.controls.plus) (same upper.controls.minus lower.controls.minus)
    (same upper.controls.read_out lower.controls.read_out) (same upper.carry (carry_leaves lower)) (not-apart (are_one upper lower) together) in
    let plus = same-is upper.controls.plus lower.controls.plus alike.0 in
    let minus = same-is upper.controls.minus lower.controls.minus alike.1 in
    let read = same-is upper.controls.read_out lower.controls.read_out alike.2 in
    let carry : upper.carry ≡ carries_out (wheels_in lower) lower.carry
    = same-is upper.carry (carry_leaves lower) alike.3 ∙ sym (carries-on (wheels_in lower) lower.carry) in
    let above : number (counter_ended upper cycle).digits + carry_number (carries_out (wheels_in upper) upper.carry) * power
    ≡ (if lower.controls.read_out then 0 else number upper.digits)
    + (if lower.controls.minus then power - 1 - number upper.entered else if lower.controls.plus then number upper.entered else 0)
    + carry_number (carries_out (wheels_in lower) lower.carry)
    = subst (λ (p : ℕ). number (counter_ended upper cycle).digits + carry_number (carries_out (wheels_in upper) upper.carry) * p
    ≡ start_number upper.controls (number upper.digits) + added_number upper.controls p (number upper.entered) + carry_number upper.carry)
    is (ended-sum upper cycle lawful)
    ∙ (λ i. (if read i then 0 else number upper.digits)
    + (if minus i then power - 1 - number upper.entered else if plus i then number upper.entered else 0) + carry_number (carry i)) in
    let below : number (counter_ended lower cycle).digits + carry_number (carries_out (wheels_in lower) lower.carry) * power_lower
    ≡ start_number lower.controls (number lower.digits) + added_number lower.controls power_lower (number lower.entered)
    + carry_number lower.carry
    = subst (λ (p : ℕ). number (counter_ended lower cycle).digits + carry_number (carries_out (wheels_in lower) lower.carry) * p
    ≡ start_number lower.controls (number lower.digits) + added_number lower.controls p (number lower.entered) + carry_number lower.carry)
    and_is (ended-sum lower cycle and_lawful) in
    let few : number upper.entered < power = subst (λ p. number upper.entered < p) is (entered-within upper lawful) in
    let fewer : number lower.entered < power_lower = subst (λ p. number lower.entered < p) and_is (entered-within lower and_lawful) in
    let join : (one other : ℕ) → joined one other lower.name.width ≡ one * power_lower + other
    = λ one other. ap (λ (p : ℕ). one * p + other) (power-is lower.name.width and_lawful.width ∙ and_is) in
    record {
      carried = carries_out (wheels_in upper) upper.carry;
      sum =
          ap (λ n. n + carry_number (carries_out (wheels_in upper) upper.carry) * (power * power_lower))
          (join (number (counter_ended upper cycle).digits) (number (counter_ended lower cycle).digits))
          ∙ one-sum (number (counter_ended upper cycle).digits) (number (counter_ended lower cycle).digits)
          (if lower.controls.read_out then 0 else number upper.digits) (if lower.controls.read_out then 0 else number lower.digits)
          (if lower.controls.minus then power - 1 - number upper.entered else if lower.controls.plus then number upper.entered else 0)
          (if lower.controls.minus then power_lower - 1 - number lower.entered else if lower.controls.plus then number lower.entered else 0)
          (carry_number (carries_out (wheels_in upper) upper.carry)) (carry_number (carries_out (wheels_in lower) lower.carry))
          (carry_number lower.carry) power power_lower above below
          ∙ (λ i. start-both lower.controls.read_out (number upper.digits) (number lower.digits) power_lower i
          + added-both lower.controls.minus lower.controls.plus (number upper.entered) (number lower.entered) power power_lower few fewer i
          + carry_number lower.carry)
          ∙ (λ i. (if lower.controls.read_out then 0 else sym (join (number upper.digits) (number lower.digits)) i)
          + (if lower.controls.minus then power * power_lower - 1 - sym (join (number upper.entered) (number lower.entered)) i
          else if lower.controls.plus then sym (join (number upper.entered) (number lower.entered)) i else 0)
          + carry_number lower.carry)
          ∙ ap (λ n. n + carry_number lower.carry)
          (told-sum (movement_of_both upper lower cycle).apart lower.controls.read_out lower.controls.minus
          ((movement_of_both upper lower cycle).entered == (movement_of_both upper lower cycle).held) lower.controls.plus
          (movement_of_both upper lower cycle).held (movement_of_both upper lower cycle).entered (power * power_lower) together)
          ∙ omega arith;
    }

-- an entry, unless its groups did different things
entry-together : (upper lower : Counter) (cycle : Cycle) (card passed power power_lower : ℕ) → IsCounter upper → IsCounter lower
    → 10 ^ upper.name.width ≡ power → 10 ^ lower.name.width ≡ power_lower
    → IsTogether (entry_of cycle card passed (movement_of_both upper lower cycle))
    → IsSum (power * power_lower) (entry_of cycle card passed (movement_of_both upper lower cycle))
entry-together upper lower cycle card passed power power_lower lawful and_lawful is and_is together =
    entry-both upper lower cycle card passed power power_lower lawful and_lawful is and_is
    (by (movement_of_both upper lower cycle) together)
  where
    by : (moved : Movement) → (change_of moved ≡ Apart → ⊥) → moved.apart ≡ false
    by moved never = split moved.apart refl
      where
        split : (b : Bool) → moved.apart ≡ b → b ≡ false
        split true on =
            absurd (never (ap (λ (b : Bool). if b then Apart
            else if is_turned moved then Turned else if moved.minus then Minus else if moved.plus then Plus else Carry) on))
        split false on = refl

sums-of : (wiring : Wiring) (deck : List (List ℕ)) (upper lower : ℕ) {along : Along} {entries : List Entry} → upper < 32 → lower < 32
    → IsLedger wiring deck (Coupled upper lower) along entries
    → All (λ (entry : Entry). IsTogether entry → IsSum (power_of_both upper lower) entry) entries
sums-of wiring deck upper lower high low begun = All-nil (λ (entry : Entry). IsTogether entry → IsSum (power_of_both upper lower) entry)
sums-of wiring deck upper lower high low (more cycle before old behind ledger goes) =
    let comes = comes-to wiring deck (Coupled upper lower) ledger in
    let held = holds wiring deck upper high comes in
    let and_held = holds wiring deck lower low comes in
    let above = in-cycle wiring cycle upper before behind high held goes in
    let below = in-cycle wiring cycle lower before behind low and_held goes in
    let P : Entry → Type 0 = λ entry. IsTogether entry → IsSum (power_of_both upper lower) entry in
    let moved : Movement = movement_of_both (group_at behind upper) (group_at behind lower) cycle in
    let is : 10 ^ (group_at behind upper).name.width ≡ power_at upper = ap (λ (n : Group). 10 ^ n.width) above.name ∙ held.power in
    let and_is : 10 ^ (group_at behind lower).name.width ≡ power_at lower = ap (λ (n : Group). 10 ^ n.width) below.name ∙ and_held.power in
    All-append P (entries_left moved old) (entries_gained cycle (card_in cycle before.card) before.passed moved)
    (left-all P (is_cleared moved) old (sums-of wiring deck upper lower high low ledger))
    (gained-all P (is_added moved) (entry_of cycle (card_in cycle before.card) before.passed moved)
    (entry-together (group_at behind upper) (group_at behind lower) cycle (card_in cycle before.card) before.passed (power_at upper) (power_at lower)
    above.lawful below.lawful is and_is))

pub coupled-entries-sums : CoupledEntriesAreSums
coupled-entries-sums wiring deck upper lower along entries high low ledger = sums-of wiring deck upper lower high low ledger

start-unturned : (change : Change) (before : ℕ) → (change ≡ Turned → ⊥) → change_start change before ≡ before
start-unturned Turned before is = absurd (is refl)
start-unturned Plus before is = refl
start-unturned Minus before is = refl
start-unturned Carry before is = refl
start-unturned Apart before is = refl

-- What an entry adds to the sum of a ledger, if it clears it or not, and what stays if there is no entry.
sum-on : (cleared added : Bool) (entries : List Entry) (entry : Entry) (held after power : ℕ)
    → entry.before ≡ (if cleared then 0 else held) → entry.after ≡ after → (added ≡ true → IsSum power entry)
    → (added ≡ false → after ≡ (if cleared then 0 else held))
    → (cleared ≡ false → (carries : ℕ) × (held + carries * power ≡ sum_by (number_added power) entries))
    → (added ≡ true → IsUnturned entry)
    → (carries : ℕ)
    × (after + carries * power ≡ sum_by (number_added power) ((if cleared then [] else entries) ++ (if added then entry ∷ [] else [])))
sum-on true true entries entry held after power before is sums stays sum unturned =
    let one = sums refl in
    let start = start-unturned entry.change entry.before (unturned refl) in
    let whole = one.sum in (
      carry_number one.carried,
      first after entry.after (carry_number one.carried) (change_start entry.change entry.before) entry.before (number_added power entry)
          is whole start before
          ∙ sym (sum_by-cons (number_added power) entry []),
    )
  where
    first : (after its carried from before added : ℕ) → its ≡ after → its + carried * power ≡ from + added → from ≡ before → before ≡ 0
        → after + carried * power ≡ added + 0
    first after its carried from before added same sum start none = grind (arith, same, sum, start, none)
sum-on true false entries entry held after power before is sums stays sum unturned = (0, (let none = stays refl in omega (arith, none)))
sum-on false true entries entry held after power before is sums stays sum unturned =
    let one = sums refl in
    let start = start-unturned entry.change entry.before (unturned refl) in
    let whole = one.sum in
    let (carries, others) = sum refl in (
      carries + carry_number one.carried,
      next after entry.after carries (carry_number one.carried) (change_start entry.change entry.before) entry.before (number_added power entry)
          (sum_by (number_added power) entries) is whole start before others
          ∙ sym (sum_by-append (number_added power) entries (entry ∷ [])
          ∙ ap (λ n. sum_by (number_added power) entries + n) (sum_by-cons (number_added power) entry [])),
    )
  where
    next : (after its carries carried from before added others : ℕ) → its ≡ after → its + carried * power ≡ from + added → from ≡ before
        → before ≡ held → held + carries * power ≡ others → after + (carries + carried) * power ≡ others + (added + 0)
    next after its carries carried from before added others same sum start is_held rest = grind (arith, same, sum, start, is_held, rest)
sum-on false false entries entry held after power before is sums stays sum unturned =
    let (carries, others) = sum refl in (
      carries,
      ap (λ n. n + carries * power) (stays refl) ∙ others ∙ ap (sum_by (number_added power)) (sym (append-nil entries)),
    )

-- two groups hold less than the power of their widths
joined-less : (upper lower : Counter) (power power_lower : ℕ) → IsCounter upper → IsCounter lower → 10 ^ upper.name.width ≡ power
    → 10 ^ lower.name.width ≡ power_lower → joined (number upper.digits) (number lower.digits) lower.name.width < power * power_lower
joined-less upper lower power power_lower lawful and_lawful is and_is =
    let high : number upper.digits < power = subst (λ p. number upper.digits < p) is (number-within upper lawful) in
    let low : number lower.digits < power_lower = subst (λ p. number lower.digits < p) and_is (number-within lower and_lawful) in
    subst (λ n. n < power * power_lower)
    (sym (ap (λ (p : ℕ). number upper.digits * p + number lower.digits) (power-is lower.name.width and_lawful.width ∙ and_is)))
    (below (number upper.digits) (number lower.digits) high low)
  where
    below : (one other : ℕ) → one < power → other < power_lower → one * power_lower + other < power * power_lower
    below one other few fewer =
        let rest : power ≡ one + 1 + (power - one - 1) = omega (arith, few) in
        let scaled : power * power_lower ≡ one * power_lower + power_lower + (power - one - 1) * power_lower
        = ap (λ n. n * power_lower) rest ∙ omega arith in
        omega (arith, scaled, fewer)

-- a number to which nothing comes stands as it stood, or at 0 if it is cleared
stays-both : (after out power start added : ℕ) → after + out * power ≡ start + added → added ≡ 0 → start < power → after ≡ start
stays-both after zero power start added sum none few = omega (arith, sum, none)
stays-both after (suc out) power start added sum none few =
    let scaled : suc out * power ≡ power + out * power = omega arith in absurd (omega (arith, sum, none, few, scaled))

none-of : (a p m c : Bool) → (a || p || m || c) ≡ false → (a ≡ false) × (p ≡ false) × (m ≡ false) × (c ≡ false)
none-of a p m c is = (grind (arith, nat_tests, is), grind (arith, nat_tests, is), grind (arith, nat_tests, is), grind (arith, nat_tests, is))

unturned-by : (a r m q : Bool) → m ≡ false → (not a && r && m && q) ≡ false
unturned-by a r m q is = grind (arith, nat_tests, is)

-- One cycle of a ledger of two groups.
module _ (upper lower : Counter) (cycle : Cycle) (card passed power power_lower : ℕ) (lawful : IsCounter upper) (and_lawful : IsCounter lower)
    (is : 10 ^ upper.name.width ≡ power) (and_is : 10 ^ lower.name.width ≡ power_lower) where
  nothing-comes : is_added (movement_of_both upper lower cycle) ≡ false
      → (movement_of_both upper lower cycle).after
      ≡ (if is_cleared (movement_of_both upper lower cycle) then 0 else (movement_of_both upper lower cycle).held)
  nothing-comes idle =
      let none = none-of (movement_of_both upper lower cycle).apart (movement_of_both upper lower cycle).plus
      (movement_of_both upper lower cycle).minus (movement_of_both upper lower cycle).carry idle in
      let sum = entry-both upper lower cycle card passed power power_lower lawful and_lawful is and_is none.0 in
      let turned : is_turned (movement_of_both upper lower cycle) ≡ false
      = unturned-by (movement_of_both upper lower cycle).apart (movement_of_both upper lower cycle).read_out
      (movement_of_both upper lower cycle).minus
      ((movement_of_both upper lower cycle).entered == (movement_of_both upper lower cycle).held) none.2 in
      let change : change_of (movement_of_both upper lower cycle) ≡ Carry
      = (λ i. if none.0 i then Apart else if turned i then Turned else if none.2 i then Minus else if none.1 i then Plus else Carry) in
      let start : change_start (change_of (movement_of_both upper lower cycle))
      (if is_cleared (movement_of_both upper lower cycle) then 0 else (movement_of_both upper lower cycle).held)
      ≡ (if is_cleared (movement_of_both upper lower cycle) then 0 else (movement_of_both upper lower cycle).held)
      = ap (λ (c : Change). change_start c
      (if is_cleared (movement_of_both upper lower cycle) then 0 else (movement_of_both upper lower cycle).held)) change in
      let added : number_added (power * power_lower) (entry_of cycle card passed (movement_of_both upper lower cycle)) ≡ 0
      = (λ i. change_number (power * power_lower) (change i) (movement_of_both upper lower cycle).entered + carry_number (none.3 i)) in
      stays-both (movement_of_both upper lower cycle).after (carry_number sum.carried) (power * power_lower)
      (if is_cleared (movement_of_both upper lower cycle) then 0 else (movement_of_both upper lower cycle).held)
      (number_added (power * power_lower) (entry_of cycle card passed (movement_of_both upper lower cycle)))
      (sum.sum ∙ ap (λ n. n + number_added (power * power_lower) (entry_of cycle card passed (movement_of_both upper lower cycle))) start)
      added
      (small (is_cleared (movement_of_both upper lower cycle)) (movement_of_both upper lower cycle).held
      (joined-less upper lower power power_lower lawful and_lawful is and_is))
    where
      small : (b : Bool) (n : ℕ) → n < power * power_lower → (if b then 0 else n) < power * power_lower
      small true n less = omega (arith, less)
      small false n less = less

  -- the sum of the ledger behind it
  sum-behind : (entries : List Entry)
      → All IsTogether (ledger_after cycle card passed (movement_of_both upper lower cycle) entries)
      → All IsUnturned (ledger_after cycle card passed (movement_of_both upper lower cycle) entries)
      → (All IsTogether entries → All IsUnturned entries
      → (carries : ℕ)
      × ((movement_of_both upper lower cycle).held + carries * (power * power_lower) ≡ sum_by (number_added (power * power_lower)) entries))
      → (carries : ℕ)
      × ((movement_of_both upper lower cycle).after + carries * (power * power_lower)
      ≡ sum_by (number_added (power * power_lower)) (ledger_after cycle card passed (movement_of_both upper lower cycle) entries))
  sum-behind entries together unturned earlier =
      let some = All-parts IsTogether (entries_left (movement_of_both upper lower cycle) entries)
      (entries_gained cycle card passed (movement_of_both upper lower cycle)) together in
      let others = All-parts IsUnturned (entries_left (movement_of_both upper lower cycle) entries)
      (entries_gained cycle card passed (movement_of_both upper lower cycle)) unturned in
      sum-on (is_cleared (movement_of_both upper lower cycle)) (is_added (movement_of_both upper lower cycle)) entries
      (entry_of cycle card passed (movement_of_both upper lower cycle)) (movement_of_both upper lower cycle).held
      (movement_of_both upper lower cycle).after (power * power_lower) refl refl
      (λ on. entry-together upper lower cycle card passed power power_lower lawful and_lawful is and_is
      (gained IsTogether (is_added (movement_of_both upper lower cycle)) on some.1))
      nothing-comes
      (λ off. earlier (left IsTogether (is_cleared (movement_of_both upper lower cycle)) off some.0)
      (left IsUnturned (is_cleared (movement_of_both upper lower cycle)) off others.0))
      (λ on. gained IsUnturned (is_added (movement_of_both upper lower cycle)) on others.1)
    where
      gained : (P : Entry → Type 0) (b : Bool) → b ≡ true
          → All P (if b then entry_of cycle card passed (movement_of_both upper lower cycle) ∷ [] else [])
          → P (entry_of cycle card passed (movement_of_both upper lower cycle))
      gained P true on all = All-head P (entry_of cycle card passed (movement_of_both upper lower cycle)) [] all
      gained P false on all = absurd (both_ways false refl on)

      left : (P : Entry → Type 0) (b : Bool) → b ≡ false → All P (if b then [] else entries) → All P entries
      left P true off all = absurd (both_ways true off refl)
      left P false off all = all

sum-of : (wiring : Wiring) (deck : List (List ℕ)) (upper lower : ℕ) {along : Along} {entries : List Entry} → upper < 32 → lower < 32
    → IsLedger wiring deck (Coupled upper lower) along entries → All IsTogether entries → All IsUnturned entries
    → (carries : ℕ)
    × (coupled_number along.run.machine upper lower + carries * power_of_both upper lower
    ≡ sum_by (number_added (power_of_both upper lower)) entries)
sum-of wiring deck upper lower high low begun together unturned =
    let none : coupled_number (run_at_start wiring deck).machine upper lower ≡ 0
    = ap (λ (n : ℕ). joined n (number (group_at (run_at_start wiring deck).machine lower).digits)
    (group_at (run_at_start wiring deck).machine lower).name.width) (start-number upper high)
    ∙ ap (λ (n : ℕ). joined 0 n (group_at (run_at_start wiring deck).machine lower).name.width) (start-number lower low)
    ∙ zeros (group_at (run_at_start wiring deck).machine lower).name.width in
    (0, omega (arith, none))
  where
    start-number : (place : ℕ) → place < 32 → number (group_at (run_at_start wiring deck).machine place).digits ≡ 0
    start-number place few =
        ap (λ (g : Counter). number g.digits) (start-group wiring deck place few) ∙ number-zeros (width_of (3 + place))

    zeros : (width : ℕ) → joined 0 0 width ≡ 0
    zeros width = omega arith
sum-of wiring deck upper lower high low (more cycle before old behind ledger goes) together unturned =
    let comes = comes-to wiring deck (Coupled upper lower) ledger in
    let held = holds wiring deck upper high comes in
    let and_held = holds wiring deck lower low comes in
    let above = in-cycle wiring cycle upper before behind high held goes in
    let below = in-cycle wiring cycle lower before behind low and_held goes in
    let is : 10 ^ (group_at behind upper).name.width ≡ power_at upper = ap (λ (n : Group). 10 ^ n.width) above.name ∙ held.power in
    let and_is : 10 ^ (group_at behind lower).name.width ≡ power_at lower = ap (λ (n : Group). 10 ^ n.width) below.name ∙ and_held.power in
    let stood : joined (number (group_at behind upper).digits) (number (group_at behind lower).digits) (group_at behind lower).name.width
    ≡ coupled_number before.run.machine upper lower
    = ap (λ (ds : List ℕ). joined (number ds) (number (group_at behind lower).digits) (group_at behind lower).name.width) above.digits
    ∙ ap (λ (ds : List ℕ). joined (number (group_at before.run.machine upper).digits) (number ds) (group_at behind lower).name.width) below.digits
    ∙ ap (λ (n : Group). joined (number (group_at before.run.machine upper).digits) (number (group_at before.run.machine lower).digits) n.width)
    below.name in
    let stands : coupled_number (ended behind cycle) upper lower
    ≡ joined (number (counter_ended (group_at behind upper) cycle).digits) (number (counter_ended (group_at behind lower) cycle).digits)
    (group_at behind lower).name.width
    = ap (λ (g : Counter). joined (number g.digits) (number (group_at (ended behind cycle) lower).digits)
    (group_at (ended behind cycle) lower).name.width) above.same
    ∙ ap (λ (g : Counter). joined (number (counter_ended (group_at behind upper) cycle).digits) (number g.digits) g.name.width) below.same in
    let (carries, sum) = sum-behind (group_at behind upper) (group_at behind lower) cycle (card_in cycle before.card) before.passed (power_at upper)
    (power_at lower) above.lawful below.lawful is and_is old together unturned
    (λ some others.
    let (count, so_far) = sum-of wiring deck upper lower high low ledger some others in
    (count, ap (λ n. n + count * power_of_both upper lower) stood ∙ so_far)) in
    (carries, ap (λ n. n + carries * power_of_both upper lower) stands ∙ sum)

pub coupled-ledgers-sums : CoupledLedgersAreSums
coupled-ledgers-sums wiring deck upper lower along entries high low ledger together unturned =
    sum-of wiring deck upper lower high low ledger together unturned
