-- The number that two groups stand for, along a run.
use Rattle.std.proofs.Common.{◌≡◌, ◌∙◌, sym, ap, subst, refl, ℕ, ◌+◌, ◌<◌, ◌==◌, ◌&&◌, ◌||◌, not, Bool, true, false, List, [], ◌∷◌, arith, if◌then◌else◌}
use Rattle.std.proofs.lemmas.Bool.Decides.{nat_tests}
use Rattle.hubs.specs.SetupsWords.Wiring.{Wiring}
use Rattle.net.specs.declared.cycle.Cycle.{Cycle}
use Rattle.hubs.specs.declared.hub.Group.{Group}
use Rattle.counters.specs.Counters.{Counter, counter_ended, wheel_of, wheels_in, wheels_of, width_of}
use Rattle.counters.specs.Laws.{IsCounter}
use Rattle.counters.specs.Numbers.{number}
use Rattle.counters.specs.Wheels.{all_nines, carries_out, passes, stands}
use Rattle.counters.specs.declared.controls.Controls.{Controls}
use Rattle.counters.proofs.Idle.{idle-carries_out}
use Rattle.machine.specs.Machine.{ended}
use Rattle.machine.specs.Runs.{run_at_start}
use Rattle.explain_ledgers.specs.LedgersWords.Coupled.{CoupledLedgersTellNumbers, coupled_number}
use Rattle.explain_ledgers.specs.LedgersWords.Entries.{are_one, carry_leaves, entry_of, is_added, is_cleared, joined, ledger_after, movement_of_both, same}
use Rattle.explain_ledgers.specs.LedgersWords.Ledgers.{Along, Chain, IsLedger, begun, card_in, group_at, more}
use Rattle.explain_ledgers.specs.declared.ledgers.account.Account.TheVariants.{Coupled}
use Rattle.explain_ledgers.specs.declared.ledgers.entry.Entry.{Entry}
use Rattle.explain_ledgers.specs.declared.ledgers.entry.Movement.{Movement}
use Rattle.explain_ledgers.proofs.LedgersWords.Places.{comes-to}
use Rattle.explain_ledgers.proofs.LedgersWords.Sums.{chain-after, cleared-is, still}
use Rattle.explain_ledgers.proofs.LedgersWords.Whole.{holds, in-cycle, number-zeros, start-group}

no-carry : (out carry below : Bool) → out ≡ false → carry ≡ false → (out || (carry && below)) ≡ false
no-carry out carry below o c = grind (arith, nat_tests, o, c)

no-step : (out nine below : Bool) → out ≡ false → below ≡ false → (out || (nine && below)) ≡ false
no-step out nine below o b = grind (arith, nat_tests, o, b)

-- from a group that is only read out no carry leaves
read-carries_out : (controls : Controls) (ds es : List ℕ) → controls.read_out ≡ true → controls.minus ≡ false → controls.plus ≡ false
    → carries_out (wheels_of controls ds es) false ≡ false
read-carries_out controls [] es read minus plus = refl
read-carries_out controls (d ∷ ds) [] read minus plus = refl
read-carries_out controls (d ∷ ds) (e ∷ es) read minus plus =
    no-step (passes (wheel_of controls d e)) (stands (wheel_of controls d e) == 9) (carries_out (wheels_of controls ds es) false)
    (grind (arith, nat_tests, read, minus, plus)) (read-carries_out controls ds es read minus plus)

-- nor from one to which nothing comes
none-leaves : (group : Counter) → IsCounter group → group.controls.plus ≡ false → group.controls.minus ≡ false → group.carry ≡ false
    → carry_leaves group ≡ false
none-leaves group lawful plus minus carry = by group.controls.read_out refl
  where
    by : (r : Bool) → group.controls.read_out ≡ r → carry_leaves group ≡ false
    by true is =
        no-carry (carries_out (wheels_in group) false) group.carry (all_nines (wheels_in group))
        (read-carries_out group.controls group.digits group.entered is minus plus) carry
    by false is =
        no-carry (carries_out (wheels_in group) false) group.carry (all_nines (wheels_in group))
        (idle-carries_out group.controls group.digits group.entered is minus plus lawful.digits) carry

same-is : (one other : Bool) → same one other ≡ true → one ≡ other
same-is true other is = sym is
same-is false true is = is
same-is false false is = refl

all-of : (a b c d : Bool) → ((a && b && c) && d) ≡ true → (a ≡ true) × (b ≡ true) × (c ≡ true) × (d ≡ true)
all-of a b c d is = (grind (arith, nat_tests, is), grind (arith, nat_tests, is), grind (arith, nat_tests, is), grind (arith, nat_tests, is))

none-of : (a p m c : Bool) → (a || p || m || c) ≡ false → (a ≡ false) × (p ≡ false) × (m ≡ false) × (c ≡ false)
none-of a p m c is = (grind (arith, nat_tests, is), grind (arith, nat_tests, is), grind (arith, nat_tests, is), grind (arith, nat_tests, is))

not-apart : (one : Bool) → not one ≡ false → one ≡ true
not-apart true is = refl
not-apart false is = sym is

cleared-by : (a r m q : Bool) → a ≡ false → m ≡ false → (not a && r && not (not a && r && m && q)) ≡ r
cleared-by true r m q apart minus = absurd (grind (arith, nat_tests, apart))
cleared-by false r m q apart minus = cleared-is r m q minus

zero-joined : (width : ℕ) → joined 0 0 width ≡ 0
zero-joined width = omega arith

joined-by : (r : Bool) (upper lower upper_after lower_after width : ℕ) → upper_after ≡ (if r then 0 else upper)
    → lower_after ≡ (if r then 0 else lower) → joined upper_after lower_after width ≡ (if r then 0 else joined upper lower width)
joined-by true upper lower upper_after lower_after width u l =
    ap (λ (n : ℕ). joined n lower_after width) u ∙ ap (λ (n : ℕ). joined 0 n width) l ∙ zero-joined width
joined-by false upper lower upper_after lower_after width u l =
    ap (λ (n : ℕ). joined n lower_after width) u ∙ ap (λ (n : ℕ). joined upper n width) l

-- two groups to which nothing comes stand as they stood, or at 0 where they are cleared
still-both : (upper lower : Counter) (cycle : Cycle) → IsCounter upper → IsCounter lower
    → is_added (movement_of_both upper lower cycle) ≡ false
    → (movement_of_both upper lower cycle).after
    ≡ (if is_cleared (movement_of_both upper lower cycle) then 0 else (movement_of_both upper lower cycle).held)
still-both upper lower cycle upper_lawful lower_lawful idle =
    let moved : Movement = movement_of_both upper lower cycle in
    let none = none-of moved.apart moved.plus moved.minus moved.carry idle in
    let alike =
    all-of (same upper.controls.plus lower.controls.plus) (same upper.controls.minus lower.controls.minus)
    (same upper.controls.read_out lower.controls.read_out) (same upper.carry (carry_leaves lower)) (not-apart (are_one upper lower) none.0) in
    let plus = same-is upper.controls.plus lower.controls.plus alike.0 ∙ none.1 in
    let minus = same-is upper.controls.minus lower.controls.minus alike.1 ∙ none.2 in
    let read = same-is upper.controls.read_out lower.controls.read_out alike.2 in
    let carry =
    same-is upper.carry (carry_leaves lower) alike.3 ∙ none-leaves lower lower_lawful none.1 none.2 none.3 in
    let cleared : is_cleared moved ≡ lower.controls.read_out =
    cleared-by moved.apart lower.controls.read_out lower.controls.minus (moved.entered == moved.held) none.0 none.2 in
    joined-by lower.controls.read_out (number upper.digits) (number lower.digits) (number (counter_ended upper cycle).digits)
    (number (counter_ended lower cycle).digits) lower.name.width
    (still upper cycle upper_lawful plus minus carry
    ∙ ap (λ (b : Bool). if b then 0 else number upper.digits)
    (cleared-is upper.controls.read_out upper.controls.minus (number upper.entered == number upper.digits) minus ∙ read))
    (still lower cycle lower_lawful none.1 none.2 none.3
    ∙ ap (λ (b : Bool). if b then 0 else number lower.digits)
    (cleared-is lower.controls.read_out lower.controls.minus (number lower.entered == number lower.digits) none.2))
    ∙ ap (λ (b : Bool). if b then 0 else moved.held) (sym cleared)

-- a cycle takes the chain on
chain-on-both : (upper lower : Counter) (cycle : Cycle) (card passed : ℕ) (entries : List Entry) → IsCounter upper → IsCounter lower
    → Chain 0 entries (joined (number upper.digits) (number lower.digits) lower.name.width)
    → Chain 0 (ledger_after cycle card passed (movement_of_both upper lower cycle) entries)
    (joined (number (counter_ended upper cycle).digits) (number (counter_ended lower cycle).digits) lower.name.width)
chain-on-both upper lower cycle card passed entries upper_lawful lower_lawful chain =
    let moved : Movement = movement_of_both upper lower cycle in
    chain-after (is_cleared moved) (is_added moved) moved.held moved.after entries (entry_of cycle card passed moved) chain refl refl
    (λ idle. still-both upper lower cycle upper_lawful lower_lawful idle)

start-number : (wiring : Wiring) (deck : List (List ℕ)) (place : ℕ) → place < 32
    → number (group_at (run_at_start wiring deck).machine place).digits ≡ 0
start-number wiring deck place low =
    ap (λ (g : Counter). number g.digits) (start-group wiring deck place low) ∙ number-zeros (width_of (3 + place))

coupled-told : (wiring : Wiring) (deck : List (List ℕ)) (upper lower : ℕ) (along : Along) (entries : List Entry) → upper < 32 → lower < 32
    → IsLedger wiring deck (Coupled upper lower) along entries → Chain 0 entries (coupled_number along.run.machine upper lower)
coupled-told wiring deck upper lower along entries high low begun =
    let width = (group_at (run_at_start wiring deck).machine lower).name.width in
    ap (λ (n : ℕ). joined n (number (group_at (run_at_start wiring deck).machine lower).digits) width) (start-number wiring deck upper high)
    ∙ ap (λ (n : ℕ). joined 0 n width) (start-number wiring deck lower low)
    ∙ zero-joined width
coupled-told wiring deck upper lower along entries high low (more cycle before old behind ledger goes) =
    let comes = comes-to wiring deck (Coupled upper lower) ledger in
    let above = in-cycle wiring cycle upper before behind high (holds wiring deck upper high comes) goes in
    let below = in-cycle wiring cycle lower before behind low (holds wiring deck lower low comes) goes in
    let one : Counter = group_at behind upper in
    let other : Counter = group_at behind lower in
    let held : coupled_number before.run.machine upper lower ≡ joined (number one.digits) (number other.digits) other.name.width =
    ap (λ (ds : List ℕ). joined (number ds) (number (group_at before.run.machine lower).digits)
    (group_at before.run.machine lower).name.width) (sym above.digits)
    ∙ ap (λ (ds : List ℕ). joined (number one.digits) (number ds) (group_at before.run.machine lower).name.width) (sym below.digits)
    ∙ ap (λ (n : Group). joined (number one.digits) (number other.digits) n.width) (sym below.name) in
    let left : coupled_number (ended behind cycle) upper lower
    ≡ joined (number (counter_ended one cycle).digits) (number (counter_ended other cycle).digits) other.name.width =
    ap (λ (g : Counter). joined (number g.digits) (number (group_at (ended behind cycle) lower).digits)
    (group_at (ended behind cycle) lower).name.width) above.same
    ∙ ap (λ (g : Counter). joined (number (counter_ended one cycle).digits) (number g.digits) g.name.width) below.same in
    let moved : Movement = movement_of_both one other cycle in
    subst (Chain 0 (ledger_after cycle (card_in cycle before.card) before.passed moved old)) (sym left)
    (chain-on-both one other cycle (card_in cycle before.card) before.passed old above.lawful below.lawful
    (subst (Chain 0 old) held (coupled-told wiring deck upper lower before old high low ledger)))

-- numbers of two groups are told
pub coupled-tell : CoupledLedgersTellNumbers
coupled-tell wiring deck upper lower along entries high low ledger = coupled-told wiring deck upper lower along entries high low ledger
