-- The numbers of a group in a cycle, behind its points.
use Rattle.std.proofs.Common.{◌≡◌, ◌∙◌, sym, ap, subst, refl, ℕ, ◌+◌, ◌*◌, ◌-◌, ◌^◌, ◌==◌, ◌&&◌, ◌||◌, not, Bool, true, false, List, [], ◌∷◌, ◌++◌, append-nil, arith, if◌then◌else◌}
use Rattle.std.proofs.lemmas.Bool.Decides.{nat_tests}
use Rattle.net.specs.declared.cycle.Cycle.{Cycle}
use Rattle.counters.specs.Counters.{Counter, counter_ended, wheels_in}
use Rattle.counters.specs.Laws.{IsCounter, carry_number}
use Rattle.counters.specs.Numbers.{number, start_number, added_number}
use Rattle.counters.specs.Wheels.{carries_out, turned}
use Rattle.counters.proofs.Idle.{idle-turned}
use Rattle.counters.proofs.Cycles.{ended-sum}
use Rattle.explain_ledgers.specs.LedgersWords.Entries.{change_of, entry_of, is_added, is_cleared, ledger_after, movement_of_one}
use Rattle.explain_ledgers.specs.LedgersWords.Ledgers.{Chain, IsSum, change_number, change_start}
use Rattle.explain_ledgers.specs.declared.ledgers.entry.Change.TheVariants.{Plus, Minus, Turned, Carry}
use Rattle.explain_ledgers.specs.declared.ledgers.entry.Entry.{Entry}

-- one entry more
chain-push : (from held new : ℕ) (entries : List Entry) (entry : Entry) → Chain from entries held → entry.before ≡ held → new ≡ entry.after
    → Chain from (entries ++ entry ∷ []) new
chain-push from held new [] entry chain before after = (before ∙ chain, after)
chain-push from held new (first ∷ others) entry chain before after =
    (chain.0, chain-push first.after held new others entry chain.1 before after)

-- a ledger that a cycle changed
pub chain-after : (cleared added : Bool) (held new : ℕ) (entries : List Entry) (entry : Entry) → Chain 0 entries held
    → entry.before ≡ (if cleared then 0 else held) → new ≡ entry.after → (added ≡ false → new ≡ (if cleared then 0 else held))
    → Chain 0 ((if cleared then [] else entries) ++ (if added then entry ∷ [] else [])) new
chain-after true true held new entries entry chain before after idle = (before, after)
chain-after true false held new entries entry chain before after idle = idle refl
chain-after false true held new entries entry chain before after idle = chain-push 0 held new entries entry chain before after
chain-after false false held new entries entry chain before after idle =
    subst (λ (l : List Entry). Chain 0 l new) (sym (append-nil entries)) (subst (Chain 0 entries) (sym (idle refl)) chain)

pub cleared-is : (r m q : Bool) → m ≡ false → (r && not (r && m && q)) ≡ r
cleared-is true m q is = grind (arith, nat_tests, is)
cleared-is false m q is = refl

-- a group to which nothing comes stands as it stood, or at 0 where it is cleared
pub still : (group : Counter) (cycle : Cycle) → IsCounter group → group.controls.plus ≡ false → group.controls.minus ≡ false
    → group.carry ≡ false → number (counter_ended group cycle).digits ≡ (if is_cleared (movement_of_one group cycle) then 0 else number group.digits)
still group cycle lawful plus minus carry =
    by group.controls.read_out refl
    ∙ ap (λ (b : Bool). if b then 0 else number group.digits)
    (sym (cleared-is group.controls.read_out group.controls.minus (number group.entered == number group.digits) minus))
  where
    by : (r : Bool) → group.controls.read_out ≡ r → number (counter_ended group cycle).digits ≡ (if r then 0 else number group.digits)
    by true is = let sum = ended-sum group cycle lawful in grind (arith, nat_tests, sum, is, plus, minus, carry)
    by false is =
        ap (λ (b : Bool). number (turned (wheels_in group) b)) carry
        ∙ ap number
        (idle-turned group.controls group.digits group.entered is minus plus lawful.digits (lawful.positions ∙ sym lawful.entries))

nothing-comes : (p m c : Bool) → (p || m || c) ≡ false → (p ≡ false) × (m ≡ false) × (c ≡ false)
nothing-comes false false false is = (refl, refl, refl)
nothing-comes false false true is = (refl, refl, is)
nothing-comes false true c is = (refl, is, absurd (grind (arith, nat_tests, is)))
nothing-comes true m c is = (is, absurd (grind (arith, nat_tests, is)), absurd (grind (arith, nat_tests, is)))

-- a cycle takes the chain on
pub chain-on : (group : Counter) (cycle : Cycle) (card passed : ℕ) (entries : List Entry) → IsCounter group
    → Chain 0 entries (number group.digits)
    → Chain 0 (ledger_after cycle card passed (movement_of_one group cycle) entries) (number (counter_ended group cycle).digits)
chain-on group cycle card passed entries lawful chain =
    chain-after (is_cleared (movement_of_one group cycle)) (is_added (movement_of_one group cycle)) (number group.digits) (number (counter_ended group cycle).digits) entries
    (entry_of cycle card passed (movement_of_one group cycle)) chain refl refl
    (λ idle.
    let none = nothing-comes group.controls.plus group.controls.minus group.carry idle in
    still group cycle lawful none.0 none.1 none.2)

-- the sums of the wheels and of the entry are the same
same-sum : (r m q p : Bool) (digits entered power : ℕ)
    → (if r then 0 else digits) + (if m then power - 1 - entered else if p then entered else 0)
    ≡ change_start (if r && m && q then Turned else if m then Minus else if p then Plus else Carry)
    (if r && not (r && m && q) then 0 else digits)
    + change_number power (if r && m && q then Turned else if m then Minus else if p then Plus else Carry) entered
same-sum true true true p digits entered power = refl
same-sum true true false p digits entered power = refl
same-sum true false q true digits entered power = refl
same-sum true false q false digits entered power = refl
same-sum false true q p digits entered power = refl
same-sum false false q true digits entered power = refl
same-sum false false q false digits entered power = refl

-- an entry is a sum
pub entry-sum : (group : Counter) (cycle : Cycle) (card passed power : ℕ) → IsCounter group → 10 ^ group.name.width ≡ power
    → IsSum power (entry_of cycle card passed (movement_of_one group cycle))
entry-sum group cycle card passed power lawful is = record {
  carried = carries_out (wheels_in group) group.carry;
  sum =
      summed (number (counter_ended group cycle).digits) (carry_number (carries_out (wheels_in group) group.carry)) power
      (start_number group.controls (number group.digits)) (added_number group.controls power (number group.entered))
      (change_start (change_of (movement_of_one group cycle)) (if is_cleared (movement_of_one group cycle) then 0 else number group.digits))
      (change_number power (change_of (movement_of_one group cycle)) (number group.entered)) (carry_number group.carry)
      (subst (λ (n : ℕ). number (counter_ended group cycle).digits + carry_number (carries_out (wheels_in group) group.carry) * n
      ≡ start_number group.controls (number group.digits) + added_number group.controls n (number group.entered) + carry_number group.carry)
      is (ended-sum group cycle lawful))
      (same-sum group.controls.read_out group.controls.minus (number group.entered == number group.digits) group.controls.plus
      (number group.digits) (number group.entered) power);
}
  where
    summed : (new out power start added from change carry : ℕ) → new + out * power ≡ start + added + carry
        → start + added ≡ from + change → new + out * power ≡ from + (change + carry)
    summed new out power start added from change carry sum same = omega (arith, sum, same)
