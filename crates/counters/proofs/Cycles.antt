-- A counter cycle as a sum of numbers.
use Rattle.std.proofs.Common.{◌≡◌, ◌∙◌, refl, sym, ap, subst, ℕ, suc, ◌+◌, ◌-◌, ◌*◌, ◌^◌, ◌≤◌, Bool, true, false, List, [], ◌∷◌, All, length, map, arith, if◌then◌else◌}
use Rattle.std.proofs.lemmas.List.{length-map, map-id}
use Rattle.std.proofs.lemmas.List.Elements.{All-cons, All-head, All-nil, All-tail}
use Rattle.std.proofs.Math.Nat.{pow-succ'}
use Rattle.counters.specs.Counters.{base_of, advance_of, counter_ended, wheel_of, wheels_in, wheels_of}
use Rattle.counters.specs.Laws.{CyclesAreSums, IsDigit, IsWheel, SumsAreLeft, carry_number}
use Rattle.counters.specs.Numbers.{number, start_number, added_number, left_number}
use Rattle.counters.specs.Wheels.{Wheel, carries_out, turned, turned_round}
use Rattle.counters.specs.declared.controls.Controls.{Controls}
use Rattle.counters.proofs.Sums.{turned-sum, turned_round-number}

-- as many wheels as digits
pub length-wheels_of : (controls : Controls) (digits entered : List ℕ) → length digits ≡ length entered
    → length (wheels_of controls digits entered) ≡ length digits
length-wheels_of controls [] entered same = refl
length-wheels_of controls (d ∷ ds) [] same = absurd (omega (arith, same))
length-wheels_of controls (d ∷ ds) (e ∷ es) same = ap suc (length-wheels_of controls ds es (omega (arith, same)))

-- a wheel starts from a digit and advances by one
based : (r : Bool) (d : ℕ) → d ≤ 9 → (if r then 0 else d) ≤ 9
based true d small = omega arith
based false d small = small

advanced : (m p : Bool) (e : ℕ) → e ≤ 9 → (if m then 9 - e else if p then e else 0) ≤ 9
advanced true p e small = omega arith
advanced false true e small = small
advanced false false e small = omega arith

pub wheels_of-IsWheel : (controls : Controls) (digits entered : List ℕ) → All IsDigit digits → All IsDigit entered
    → All IsWheel (wheels_of controls digits entered)
wheels_of-IsWheel controls [] entered all others = All-nil IsWheel
wheels_of-IsWheel controls (d ∷ ds) [] all others = All-nil IsWheel
wheels_of-IsWheel controls (d ∷ ds) (e ∷ es) all others =
    All-cons IsWheel (wheel_of controls d e) (wheels_of controls ds es)
    (based controls.read_out d (All-head IsDigit d ds all), advanced controls.minus controls.plus e (All-head IsDigit e es others))
    (wheels_of-IsWheel controls ds es (All-tail IsDigit d ds all) (All-tail IsDigit e es others))

-- what the wheels start from, and what they advance by
map-bases : (controls : Controls) (digits entered : List ℕ) → length digits ≡ length entered
    → map (λ (wheel : Wheel). wheel.base) (wheels_of controls digits entered) ≡ map (base_of controls) digits
map-bases controls [] entered same = refl
map-bases controls (d ∷ ds) [] same = absurd (omega (arith, same))
map-bases controls (d ∷ ds) (e ∷ es) same =
    ap (λ xs. base_of controls d ∷ xs) (map-bases controls ds es (omega (arith, same)))

map-advances : (controls : Controls) (digits entered : List ℕ) → length digits ≡ length entered
    → map (λ (wheel : Wheel). wheel.advance) (wheels_of controls digits entered) ≡ map (advance_of controls) entered
map-advances controls [] [] same = refl
map-advances controls [] (e ∷ es) same = absurd (omega (arith, same))
map-advances controls (d ∷ ds) [] same = absurd (omega (arith, same))
map-advances controls (d ∷ ds) (e ∷ es) same =
    ap (λ xs. advance_of controls e ∷ xs) (map-advances controls ds es (omega (arith, same)))

-- zeros spell 0
number-zeros : (ds : List ℕ) → number (map (λ d. 0) ds) ≡ 0
number-zeros [] = refl
number-zeros (d ∷ ds) = omega (arith, number-zeros ds)

number-bases : (r : Bool) (ds : List ℕ) → number (map (λ d. if r then 0 else d) ds) ≡ (if r then 0 else number ds)
number-bases true ds = number-zeros ds
number-bases false ds = ap number (map-id ds)

-- a digit and what it lacks of 9, before others, in numbers
nine_more : (d x n m : ℕ) → d ≤ 9 → n + m + 1 ≡ x → ((9 - d) * x + n) + (d * x + m) + 1 ≡ 10 * x
nine_more d x n m digit is =
    let nine : (9 - d) + d ≡ 9 = omega arith in
    omega (arith, ap (λ k. k * x) nine, is)

-- what each digit lacks of 9 spells what the number lacks of all nines
complement : (ds : List ℕ) → All IsDigit ds → number (map (λ d. 9 - d) ds) + number ds + 1 ≡ 10 ^ length ds
complement [] all = refl
complement (d ∷ ds) all =
    rw (length-map ds (λ (k : ℕ). 9 - k), pow-succ' 10 (length ds))
    (nine_more d (10 ^ length ds) (number (map (λ k. 9 - k) ds)) (number ds) (All-head IsDigit d ds all)
    (complement ds (All-tail IsDigit d ds all)))

number-advances : (m p : Bool) (ds : List ℕ) → All IsDigit ds
    → number (map (λ d. if m then 9 - d else if p then d else 0) ds)
    ≡ (if m then 10 ^ length ds - 1 - number ds else if p then number ds else 0)
number-advances true p ds all = omega (arith, complement ds all)
number-advances false true ds all = ap number (map-id ds)
number-advances false false ds all = number-zeros ds

-- what wheels start from and advance by, as numbers
pub start-number : (controls : Controls) (digits entered : List ℕ) → length digits ≡ length entered
    → number (map (λ (wheel : Wheel). wheel.base) (wheels_of controls digits entered)) ≡ start_number controls (number digits)
start-number controls digits entered same =
    ap number (map-bases controls digits entered same) ∙ number-bases controls.read_out digits

pub added-number : (controls : Controls) (digits entered : List ℕ) → length digits ≡ length entered → All IsDigit entered
    → number (map (λ (wheel : Wheel). wheel.advance) (wheels_of controls digits entered))
    ≡ added_number controls (10 ^ length digits) (number entered)
added-number controls digits entered same all =
    ap number (map-advances controls digits entered same)
    ∙ number-advances controls.minus controls.plus entered all
    ∙ ap (λ n. added_number controls (10 ^ n) (number entered)) (sym same)

-- what wheels start from and advance by together
wheels-sum : (controls : Controls) (digits entered : List ℕ) → length digits ≡ length entered → All IsDigit entered
    → number (map (λ (wheel : Wheel). wheel.base) (wheels_of controls digits entered))
    + number (map (λ (wheel : Wheel). wheel.advance) (wheels_of controls digits entered))
    ≡ start_number controls (number digits) + added_number controls (10 ^ length digits) (number entered)
wheels-sum controls digits entered same all =
    ap (λ n. n + number (map (λ (wheel : Wheel). wheel.advance) (wheels_of controls digits entered))) (start-number controls digits entered same)
    ∙ ap (λ n. start_number controls (number digits) + n) (added-number controls digits entered same all)

-- digits through a cycle, with the carry that comes in and the one that goes out
pub digits-sum : (controls : Controls) (digits entered : List ℕ) (carry : Bool) → length digits ≡ length entered
    → All IsDigit digits → All IsDigit entered
    → number (turned (wheels_of controls digits entered) carry)
    + carry_number (carries_out (wheels_of controls digits entered) carry) * 10 ^ length digits
    ≡ start_number controls (number digits) + added_number controls (10 ^ length digits) (number entered) + carry_number carry
digits-sum controls digits entered carry same all others =
    let wheels = wheels_of controls digits entered in
    ap (λ n. number (turned wheels carry) + carry_number (carries_out wheels carry) * 10 ^ n) (sym (length-wheels_of controls digits entered same))
    ∙ turned-sum wheels carry (wheels_of-IsWheel controls digits entered all others)
    ∙ ap (λ n. n + carry_number carry) (wheels-sum controls digits entered same others)

-- digits through a cycle in a ring or without one
pub digits-left : (is_ring : Bool) (controls : Controls) (digits entered : List ℕ) → length digits ≡ length entered
    → All IsDigit digits → All IsDigit entered
    → number (turned_round is_ring (wheels_of controls digits entered))
    ≡ left_number is_ring (10 ^ length digits)
    (start_number controls (number digits) + added_number controls (10 ^ length digits) (number entered))
digits-left is_ring controls digits entered same all others =
    let wheels = wheels_of controls digits entered in
    let sum = start_number controls (number digits) + added_number controls (10 ^ length digits) (number entered) in
    turned_round-number is_ring wheels sum (wheels_of-IsWheel controls digits entered all others) (wheels-sum controls digits entered same others)
    ∙ ap (λ n. left_number is_ring (10 ^ n) sum) (length-wheels_of controls digits entered same)

-- the sum of a cycle
pub ended-sum : CyclesAreSums
ended-sum counter cycle is =
    subst (λ (n : ℕ). number (counter_ended counter cycle).digits + carry_number (carries_out (wheels_in counter) counter.carry) * 10 ^ n
    ≡ start_number counter.controls (number counter.digits) + added_number counter.controls (10 ^ n) (number counter.entered)
    + carry_number counter.carry) is.positions
    (digits-sum counter.controls counter.digits counter.entered counter.carry (is.positions ∙ sym is.entries) is.digits is.entered)

-- what is left of it
pub ended-left : SumsAreLeft
ended-left is_ring counter cycle is carry =
    ap (λ b. number (turned (wheels_in counter) b)) carry
    ∙ digits-left is_ring counter.controls counter.digits counter.entered (is.positions ∙ sym is.entries) is.digits is.entered
    ∙ ap (λ n. left_number is_ring (10 ^ n) (start_number counter.controls (number counter.digits)
    + added_number counter.controls (10 ^ n) (number counter.entered))) is.positions
