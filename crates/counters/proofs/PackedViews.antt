-- Wheels from the units on, and from the top down.
use Rattle.std.proofs.Common.{◌≡◌, ◌∙◌, refl, sym, ap, ℕ, zero, suc, ◌+◌, ◌-◌, ◌<◌, ◌≤◌, ◌==◌, ◌&&◌, Bool, true, false, List, [], ◌∷◌, ◌++◌, length, take, replicate, reverse, get_or, subst, All, arith}
use Rattle.std.proofs.lemmas.List.{get_or-reverse, get_or-take, length-reverse, length-take-le, reverse-append, take-replicate, take_more}
use Rattle.counters.specs.Counters.{top_is_nine, wheel_of, wheels_of}
use Rattle.counters.specs.Laws.{IsDigit}
use Rattle.counters.specs.Packed.{carries_on, carries_up, turned_up}
use Rattle.counters.specs.Wheels.{Wheel, all_nines, carries_out, stands, stepped, turned}
use Rattle.counters.specs.declared.controls.Controls.{Controls}
use Rattle.counters.proofs.Carries.{carries_out-append, turned-append}
use Rattle.counters.proofs.Pairs.{wheels_of-append}

-- the carry that leaves the top is the same
carries_up-reverse : (ws : List Wheel) (carry : Bool) → carries_out (reverse ws) carry ≡ carries_up ws carry
carries_up-reverse [] carry = refl
carries_up-reverse (w ∷ ws) carry =
    ap (λ xs. carries_out xs carry) (reverse-append (w ∷ []) ws) ∙ carries_out-append (reverse ws) (w ∷ []) carry
    ∙ carries_up-reverse ws (carries_on w carry)

-- the digits in the end are the same, from the other end
turned_up-reverse : (ws : List Wheel) (carry : Bool) → turned (reverse ws) carry ≡ reverse (turned_up ws carry)
turned_up-reverse [] carry = refl
turned_up-reverse (w ∷ ws) carry =
    ap (λ xs. turned xs carry) (reverse-append (w ∷ []) ws) ∙ turned-append (reverse ws) (w ∷ []) carry
    ∙ ap (λ ds. ds ++ (stepped w carry ∷ [])) (turned_up-reverse ws (carries_on w carry))
    ∙ sym (reverse-append (stepped w carry ∷ []) (turned_up ws (carries_on w carry)))

-- all of them stand at 9 from either end
all_nines-last : (ws : List Wheel) (w : Wheel) → all_nines (ws ++ (w ∷ [])) ≡ (all_nines ws && (stands w == 9))
all_nines-last [] w = alone (stands w == 9) where
  alone : (b : Bool) → (b && true) ≡ b
  alone true = refl
  alone false = refl
all_nines-last (other ∷ ws) w =
    ap (λ b. (stands other == 9) && b) (all_nines-last ws w) ∙ grouped (stands other == 9) (all_nines ws) (stands w == 9)
  where
    grouped : (a b c : Bool) → (a && (b && c)) ≡ ((a && b) && c)
    grouped true b c = refl
    grouped false b c = refl

all_nines-reverse : (ws : List Wheel) → all_nines (reverse ws) ≡ all_nines ws
all_nines-reverse [] = refl
all_nines-reverse (w ∷ ws) =
    ap all_nines (reverse-append (w ∷ []) ws) ∙ all_nines-last (reverse ws) w ∙ ap (λ b. b && (stands w == 9)) (all_nines-reverse ws)
    ∙ swapped (all_nines ws) (stands w == 9)
  where
    swapped : (a b : Bool) → (a && b) ≡ (b && a)
    swapped true true = refl
    swapped true false = refl
    swapped false true = refl
    swapped false false = refl

-- wheels of digits from the other end
wheels_of-reverse : (controls : Controls) (ds es : List ℕ) → length ds ≡ length es
    → wheels_of controls (reverse ds) (reverse es) ≡ reverse (wheels_of controls ds es)
wheels_of-reverse controls [] [] long = refl
wheels_of-reverse controls [] (e ∷ es) long = absurd (omega (arith, long))
wheels_of-reverse controls (d ∷ ds) [] long = absurd (omega (arith, long))
wheels_of-reverse controls (d ∷ ds) (e ∷ es) long =
    ap (λ xs. wheels_of controls xs (reverse (e ∷ es))) (reverse-append (d ∷ []) ds)
    ∙ ap (λ ys. wheels_of controls (reverse ds ++ (d ∷ [])) ys) (reverse-append (e ∷ []) es)
    ∙ wheels_of-append controls (reverse ds) (reverse es) (d ∷ []) (e ∷ []) (omega (arith, long, length-reverse ds, length-reverse es))
    ∙ ap (λ ws. ws ++ (wheel_of controls d e ∷ [])) (wheels_of-reverse controls ds es (omega (arith, long)))
    ∙ sym (reverse-append (wheel_of controls d e ∷ []) (wheels_of controls ds es))

-- some lowest places have the wheels and the digits that they have among all
wheels_of-take : (controls : Controls) (ds es : List ℕ) (n : ℕ)
    → take n (wheels_of controls ds es) ≡ wheels_of controls (take n ds) (take n es)
wheels_of-take controls ds es zero = refl
wheels_of-take controls [] es (suc n) = refl
wheels_of-take controls (d ∷ ds) [] (suc n) = refl
wheels_of-take controls (d ∷ ds) (e ∷ es) (suc n) = ap (λ ws. wheel_of controls d e ∷ ws) (wheels_of-take controls ds es n)

turned_up-take : (ws : List Wheel) (carry : Bool) (n : ℕ) → take n (turned_up ws carry) ≡ turned_up (take n ws) carry
turned_up-take ws carry zero = refl
turned_up-take [] carry (suc n) = refl
turned_up-take (w ∷ ws) carry (suc n) = ap (λ ds. stepped w carry ∷ ds) (turned_up-take ws (carries_on w carry) n)

-- the wheels of some lowest places, from the top down
pub wheels-packed : (controls : Controls) (ds es : List ℕ) (n : ℕ) → length ds ≡ length es → n ≤ length ds
    → wheels_of controls (reverse (take n ds)) (reverse (take n es)) ≡ reverse (take n (wheels_of controls ds es))
wheels-packed controls ds es n long near =
    wheels_of-reverse controls (take n ds) (take n es)
    (length-take-le n ds near ∙ sym (length-take-le n es (omega (arith, long, near))))
    ∙ ap reverse (sym (wheels_of-take controls ds es n))

-- the carry that leaves their top
pub carries_out-packed : (controls : Controls) (ds es : List ℕ) (n : ℕ) (carry : Bool) → length ds ≡ length es → n ≤ length ds
    → carries_up (take n (wheels_of controls ds es)) carry ≡ carries_out (wheels_of controls (reverse (take n ds)) (reverse (take n es))) carry
carries_out-packed controls ds es n carry long near =
    sym (ap (λ ws. carries_out ws carry) (wheels-packed controls ds es n long near)
    ∙ carries_up-reverse (take n (wheels_of controls ds es)) carry)

-- whether they stand at 9
pub all_nines-packed : (controls : Controls) (ds es : List ℕ) (n : ℕ) → length ds ≡ length es → n ≤ length ds
    → all_nines (take n (wheels_of controls ds es)) ≡ all_nines (wheels_of controls (reverse (take n ds)) (reverse (take n es)))
all_nines-packed controls ds es n long near =
    sym (ap all_nines (wheels-packed controls ds es n long near) ∙ all_nines-reverse (take n (wheels_of controls ds es)))

-- their digits in the end
pub turned-packed : (controls : Controls) (ds es : List ℕ) (n : ℕ) (carry : Bool) → length ds ≡ length es → n ≤ length ds
    → reverse (take n (turned_up (wheels_of controls ds es) carry))
    ≡ turned (wheels_of controls (reverse (take n ds)) (reverse (take n es))) carry
turned-packed controls ds es n carry long near =
    ap reverse (turned_up-take (wheels_of controls ds es) carry n)
    ∙ sym (ap (λ ws. turned ws carry) (wheels-packed controls ds es n long near)
    ∙ turned_up-reverse (take n (wheels_of controls ds es)) carry)

top_is_nine-first : (ds : List ℕ) → top_is_nine ds ≡ (get_or ds 0 0 == 9)
top_is_nine-first [] = refl
top_is_nine-first (d ∷ ds) = refl

-- whether the highest of them stands at 9
pub top-packed : (ds : List ℕ) (n : ℕ) → 1 ≤ n → n ≤ length ds → (get_or ds (n - 1) 0 == 9) ≡ top_is_nine (reverse (take n ds))
top-packed ds n some near =
    let long : length (take n ds) ≡ n = length-take-le n ds near in
    let place : length (take n ds) - 1 - 0 ≡ n - 1 = omega (arith, long) in
    sym (top_is_nine-first (reverse (take n ds))
    ∙ ap (λ d. d == 9) (get_or-reverse (take n ds) 0 0 (omega (arith, long, some))
    ∙ ap (λ k. get_or (take n ds) k 0) place ∙ get_or-take n ds (n - 1) 0 (omega (arith, some))))

-- ---- digits

-- one more of the first digits stands before the others, from the top down
pub reverse-take_more : (ds : List ℕ) (k : ℕ) → k < length ds → reverse (take (k + 1) ds) ≡ get_or ds k 0 ∷ reverse (take k ds)
reverse-take_more ds k within =
    ap reverse (take_more ds k 0 within) ∙ reverse-append (take k ds) (get_or ds k 0 ∷ [])

-- digits are digits from the other end
pub All-digits_reverse : (ds : List ℕ) → All IsDigit ds → All IsDigit (reverse ds)
All-digits_reverse ds all k d within =
    let low : k < length ds = omega (arith, within, length-reverse ds) in
    subst (λ (n : ℕ). n ≤ 9) (sym (get_or-reverse ds k d low)) (all (length ds - 1 - k) d (omega (arith, low)))

-- a digit so many times is the same from the other end
replicate-last : (n d : ℕ) → d ∷ replicate n d ≡ replicate n d ++ (d ∷ [])
replicate-last zero d = refl
replicate-last (suc n) d = ap (λ (xs : List ℕ). d ∷ xs) (replicate-last n d)

replicate-reverse : (n d : ℕ) → reverse (replicate n d) ≡ replicate n d
replicate-reverse zero d = refl
replicate-reverse (suc n) d =
    reverse-append (d ∷ []) (replicate n d) ∙ ap (λ (xs : List ℕ). xs ++ (d ∷ [])) (replicate-reverse n d) ∙ sym (replicate-last n d)

-- at the end of a cycle nothing is entered
pub zeros-packed : (n : ℕ) → n ≤ 8 → reverse {A = ℕ} (take n (replicate 8 0)) ≡ replicate n 0
zeros-packed n near = ap (λ (xs : List ℕ). reverse xs) (take-replicate n 8 0 near) ∙ replicate-reverse n 0
