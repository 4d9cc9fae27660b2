-- Two groups through which one carry goes, as one counter.
use Rattle.std.proofs.Common.{Bool, ◌≡◌, ◌∙◌, refl, sym, ap, ℕ, ◌+◌, ◌*◌, ◌^◌, List, [], ◌∷◌, ◌++◌, length, arith}
use Rattle.std.proofs.lemmas.List.{length-append}
use Rattle.std.proofs.lemmas.List.Elements.{All-append}
use Rattle.std.proofs.lemmas.Nat.{pow-add}
use Rattle.counters.specs.Counters.{wheel_of, wheels_in, wheels_of}
use Rattle.counters.specs.Laws.{IsDigit, PairsAreCounters, number_of_both}
use Rattle.counters.specs.Numbers.{added_number, left_number, number, start_number}
use Rattle.counters.specs.Wheels.{carries_in, turned}
use Rattle.counters.specs.declared.controls.Controls.{Controls}
use Rattle.counters.proofs.Carries.{turned-append}
use Rattle.counters.proofs.Cycles.{digits-left}

-- a digit above two rows of digits, in numbers
above : (d x y n m : ℕ) → d * (x * y) + (n * y + m) ≡ (d * x + n) * y + m
above d x y n m = omega arith

-- what two rows of digits spell together
pub number-append : (upper lower : List ℕ) → number (upper ++ lower) ≡ number_of_both upper lower
number-append [] lower = omega arith
number-append (d ∷ upper) lower =
    ap (λ n. d * 10 ^ length (upper ++ lower) + n) (number-append upper lower)
    ∙ ap (λ p. d * p + number_of_both upper lower) (ap (λ n. 10 ^ n) (length-append upper lower) ∙ pow-add 10 (length upper) (length lower))
    ∙ above d (10 ^ length upper) (10 ^ length lower) (number upper) (number lower)

-- the wheels of two rows of digits
pub wheels_of-append : (controls : Controls) (upper above lower below : List ℕ) → length upper ≡ length above
    → wheels_of controls (upper ++ lower) (above ++ below) ≡ wheels_of controls upper above ++ wheels_of controls lower below
wheels_of-append controls [] [] lower below same = refl
wheels_of-append controls [] (e ∷ es) lower below same = absurd (omega (arith, same))
wheels_of-append controls (d ∷ ds) [] lower below same = absurd (omega (arith, same))
wheels_of-append controls (d ∷ ds) (e ∷ es) lower below same =
    ap (λ ws. wheel_of controls d e ∷ ws) (wheels_of-append controls ds es lower below (omega (arith, same)))

-- a test of the balance turns no wheel
wheels_of-tested : (controls : Controls) (test : Bool) (digits entered : List ℕ)
    → wheels_of controls digits entered ≡ wheels_of (record controls { test = test }) digits entered
wheels_of-tested controls test [] entered = refl
wheels_of-tested controls test (d ∷ ds) [] = refl
wheels_of-tested controls test (d ∷ ds) (e ∷ es) =
    ap (λ ws. wheel_of controls d e ∷ ws) (wheels_of-tested controls test ds es)

-- the pair as one row of digits
pub ended-pair : PairsAreCounters
ended-pair is_ring upper lower cycle is and_is coupled =
    let controls = lower.controls in
    let digits = upper.digits ++ lower.digits in
    let entered = upper.entered ++ lower.entered in
    let over = wheels_in upper in
    let under = wheels_in lower in
    let as_many : length upper.digits ≡ length upper.entered = is.positions ∙ sym is.entries in
    let as_many_below : length lower.digits ≡ length lower.entered = and_is.positions ∙ sym and_is.entries in
    let as_many_in_all : length digits ≡ length entered =
    length-append upper.digits lower.digits ∙ ap (λ n. n + length lower.digits) as_many
    ∙ ap (λ n. length upper.entered + n) as_many_below ∙ sym (length-append upper.entered lower.entered) in
    let wheels : wheels_of controls digits entered ≡ over ++ under =
    wheels_of-append controls upper.digits upper.entered lower.digits lower.entered as_many
    ∙ ap (λ ws. ws ++ under) (wheels_of-tested controls upper.controls.test upper.digits upper.entered)
    ∙ ap (λ k. wheels_of k upper.digits upper.entered ++ under) (sym coupled.controls) in
    let long : length digits ≡ upper.name.width + lower.name.width =
    length-append upper.digits lower.digits ∙ ap (λ n. n + length lower.digits) is.positions
    ∙ ap (λ n. upper.name.width + n) and_is.positions in
    sym (number-append (turned over upper.carry) (turned under lower.carry))
    ∙ ap (λ b. number (turned over b ++ turned under lower.carry)) coupled.into_upper
    ∙ ap number (sym (turned-append over under lower.carry))
    ∙ ap (λ b. number (turned (over ++ under) b)) coupled.into_lower
    ∙ ap (λ ws. number (turned ws (carries_in is_ring ws))) (sym wheels)
    ∙ digits-left is_ring controls digits entered as_many_in_all
    (All-append IsDigit upper.digits lower.digits is.digits and_is.digits)
    (All-append IsDigit upper.entered lower.entered is.entered and_is.entered)
    ∙ ap (λ n. left_number is_ring (10 ^ n) (start_number controls (number digits) + added_number controls (10 ^ n) (number entered))) long
    ∙ ap (λ n. left_number is_ring (10 ^ (upper.name.width + lower.name.width))
    (start_number controls n + added_number controls (10 ^ (upper.name.width + lower.name.width)) (number entered)))
    (number-append upper.digits lower.digits)
    ∙ ap (λ n. left_number is_ring (10 ^ (upper.name.width + lower.name.width))
    (start_number controls (number_of_both upper.digits lower.digits)
    + added_number controls (10 ^ (upper.name.width + lower.name.width)) n))
    (number-append upper.entered lower.entered)
