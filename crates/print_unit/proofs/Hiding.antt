-- Wheels made blank, half a word of them at a time.
use Rattle.std.proofs.Common.{◌≡◌, ◌≢◌, ◌∙◌, refl, sym, ap, ℕ, ◌+◌, ◌-◌, ◌*◌, ◌/◌, ◌%◌, ◌^◌, ◌<◌, ◌≤◌, ◌==◌, ◌&&◌, not, ◌⊎◌, inl, inr, nat_le, Bool, true, false, List, length, slice_index_or, slice_set, bit_and, arith, if◌then◌else◌}
use Rattle.std.proofs.lemmas.Bool.{cases_lt}
use Rattle.std.proofs.lemmas.Bool.Decides.{eqb_tells, nat_tests}
use Rattle.std.proofs.lemmas.List.{get_or-set_same, get_or-set_other, length-set}
use Rattle.std.proofs.lemmas.Nat.{and_le_l, and_le_r}
use Rattle.std.specs.Int.{bit_not, w64, trailing_zeros}
use Rattle.net.proofs.Below.machine_sets.BitSets.BitLemmas.{is_bit-above, is_bit-low_word, is_bit-shr, is_bit-taken, lowest_bit}
use Rattle.net.specs.HubSets.{is_bit}
use Rattle.print_unit.proofs.Bits.{is_bit-zero}

-- Bits of half a word stand for the wheels from one on. Of the hidden wheels those that are no longer left are blank on the new line; all
-- others have what the old one had.
pub record HidesLeft (from hidden left : ℕ) (old new : List ℕ) : Type 0 where
  pub small : left < 2 ^ 64
  pub within : (k : ℕ) → k < 64 → (is_bit left k && is_bit hidden k) ≡ is_bit left k
  pub blank :
      (k : ℕ) → k < 120
      → slice_index_or new k 0
      ≡ (if nat_le from k && (is_bit hidden (k - from) && not (is_bit left (k - from))) then 32 else slice_index_or old k 0)
  pub wheels : length new ≡ 120

-- no wheel is blank yet
pub hides-none : (from hidden : ℕ) (line : List ℕ) → hidden < 2 ^ 64 → length line ≡ 120 → HidesLeft from hidden hidden line line
hides-none from hidden line small wheels = record {
  small = small;
  within = λ k wide. both (is_bit hidden k);
  blank = λ k low. sym (ap (λ b. if b then 32 else slice_index_or line k 0) (none (nat_le from k) (is_bit hidden (k - from))));
  wheels = wheels;
}
  where
    both : (b : Bool) → (b && b) ≡ b
    both true = refl
    both false = refl

    none : (a b : Bool) → (a && (b && not b)) ≡ false
    none true true = refl
    none true false = refl
    none false b = refl

-- the wheel of a bit that is left becomes blank, if there is such a wheel
hides-bit : (from hidden left at : ℕ) (old now new : List ℕ) → at < 64 → is_bit left at ≡ true
    → ((k : ℕ) → k < 120 → k ≡ from + at → slice_index_or new k 0 ≡ 32)
    → ((k : ℕ) → k < 120 → k ≢ from + at → slice_index_or new k 0 ≡ slice_index_or now k 0)
    → length new ≡ 120 → HidesLeft from hidden left old now
    → HidesLeft from hidden (bit_and left (bit_not w64 (1 * 2 ^ at % 2 ^ 64))) old new
hides-bit from hidden left at old now new below on here others wheels hides = record {
  small = small;
  within = λ k wide. let w = hides.within k wide in rw (is_bit-taken left at k below wide) (grind (arith, nat_tests, w));
  blank = λ k low. by k low (eqb_tells k (from + at));
  wheels = wheels;
}
  where
    rest : ℕ
    rest = bit_and left (bit_not w64 (1 * 2 ^ at % 2 ^ 64))

    small : rest < 2 ^ 64
    small = let less = and_le_l left (bit_not w64 (1 * 2 ^ at % 2 ^ 64)) in let was = hides.small in omega (arith, less, was)

    -- another bit is left as it was
    kept : (j : ℕ) → j ≢ at → is_bit rest j ≡ is_bit left j
    kept j apart = near (cases_lt j 64)
      where
        off : (j == at) ≡ false
        off = grind (arith, nat_tests, apart)

        whole : (b : Bool) → (b && not false) ≡ b
        whole true = refl
        whole false = refl

        near : (j < 64) ⊎ (64 ≤ j) → is_bit rest j ≡ is_bit left j
        near (inl wide) = is_bit-taken left at j below wide ∙ ap (λ b. is_bit left j && not b) off ∙ whole (is_bit left j)
        near (inr far) = is_bit-above rest 64 j small far ∙ sym (is_bit-above left 64 j hides.small far)

    gone : is_bit rest at ≡ false
    gone = is_bit-taken left at at below below ∙ none (is_bit left at)
      where
        none : (b : Bool) → (b && not (at == at)) ≡ false
        none b = grind (arith, nat_tests)

    hidden_on : is_bit hidden at ≡ true
    hidden_on = told (is_bit left at) (is_bit hidden at) on (hides.within at below)
      where
        told : (l h : Bool) → l ≡ true → (l && h) ≡ l → h ≡ true
        told l h e f = grind (arith, nat_tests, e, f)

    by : (k : ℕ) → k < 120 → ((k == from + at) ≡ true) × (k ≡ from + at) ⊎ ((k == from + at) ≡ false) × (k ≢ from + at)
        → slice_index_or new k 0
        ≡ (if nat_le from k && (is_bit hidden (k - from) && not (is_bit rest (k - from))) then 32 else slice_index_or old k 0)
    by k low (inl same) =
        let index : k - from ≡ at = let e = same.1 in omega (arith, e) in
        let after : nat_le from k ≡ true = let e = same.1 in grind (arith, nat_tests, e) in
        here k low same.1
        ∙ sym (ap (λ b. if b then 32 else slice_index_or old k 0)
        ((λ i. after i && (is_bit hidden (index i) && not (is_bit rest (index i)))) ∙ (λ i. true && (hidden_on i && not (gone i)))))
    by k low (inr apart) =
        others k low apart.1 ∙ hides.blank k low
        ∙ ap (λ b. if b then 32 else slice_index_or old k 0) (alike (nat_le from k) refl)
      where
        alike : (after : Bool) → nat_le from k ≡ after
            → (after && (is_bit hidden (k - from) && not (is_bit left (k - from))))
            ≡ (after && (is_bit hidden (k - from) && not (is_bit rest (k - from))))
        alike false is = refl
        alike true is =
            let differ : k - from ≢ at = λ e. let not_same = apart.1 in absurd (wrong k from at is e not_same) in
            ap (λ b. is_bit hidden (k - from) && not b) (sym (kept (k - from) differ))
          where
            wrong : (k from at : ℕ) → nat_le from k ≡ true → k - from ≡ at → k ≢ from + at → ⊥
            wrong k from at is e f = f (let low = less from k is in omega (arith, e, low))
              where
                less : (m n : ℕ) → nat_le m n ≡ true → m ≤ n
                less m n e = grind (arith, nat_tests, e)

pub hides-lowest : (from hidden left : ℕ) (old now : List ℕ) → left ≢ 0 → from + trailing_zeros w64 left < 120
    → HidesLeft from hidden left old now
    → HidesLeft from hidden (bit_and left (bit_not w64 (1 * 2 ^ trailing_zeros w64 left % 2 ^ 64))) old
    (slice_set now (from + trailing_zeros w64 left) 32)
hides-lowest from hidden left old now some low hides =
    let at = lowest_bit left (omega (arith, some)) hides.small in
    let k = from + trailing_zeros w64 left in
    let long = hides.wheels in
    hides-bit from hidden left (trailing_zeros w64 left) old now (slice_set now k 32) at.0 at.1
    (λ j near same. ap (λ (i : ℕ). slice_index_or (slice_set now k 32) i 0) same ∙ get_or-set_same now k 32 0 (omega (arith, long, low)))
    (λ j near apart. get_or-set_other now k j 32 0 apart)
    (length-set now k 32 ∙ long) hides

pub hides-beyond : (from hidden left : ℕ) (old now : List ℕ) → left ≢ 0 → 120 ≤ from + trailing_zeros w64 left
    → HidesLeft from hidden left old now
    → HidesLeft from hidden (bit_and left (bit_not w64 (1 * 2 ^ trailing_zeros w64 left % 2 ^ 64))) old now
hides-beyond from hidden left old now some high hides =
    let at = lowest_bit left (omega (arith, some)) hides.small in
    hides-bit from hidden left (trailing_zeros w64 left) old now now at.0 at.1
    (λ j near same. absurd (omega (arith, near, same, high)))
    (λ j near apart. refl) hides.wheels hides

-- where none is left all are blank that are hidden
pub hides-all : (from hidden left : ℕ) (old new : List ℕ) → left ≡ 0 → HidesLeft from hidden left old new → (k : ℕ) → k < 120
    → slice_index_or new k 0 ≡ (if nat_le from k && is_bit hidden (k - from) then 32 else slice_index_or old k 0)
hides-all from hidden left old new none hides k low =
    hides.blank k low
    ∙ ap (λ b. if nat_le from k && (is_bit hidden (k - from) && not b) then 32 else slice_index_or old k 0)
    (ap (λ (n : ℕ). is_bit n (k - from)) none ∙ is_bit-zero (k - from))
    ∙ ap (λ b. if nat_le from k && b then 32 else slice_index_or old k 0) (whole (is_bit hidden (k - from)))
  where
    whole : (b : Bool) → (b && not false) ≡ b
    whole true = refl
    whole false = refl

-- both halves of a word are blank
pub hides-both : (hidden low high : ℕ) (k now : ℕ) → k < 120 → low ≡ bit_and hidden 0xffff_ffff_ffff_ffff → high ≡ hidden / 2 ^ 64
    → (if nat_le 64 k && is_bit high (k - 64) then 32 else (if nat_le 0 k && is_bit low (k - 0) then 32 else now))
    ≡ (if is_bit hidden k then 32 else now)
hides-both hidden low high k now below is_low is_high = by (nat_le 64 k) refl
  where
    by : (after : Bool) → nat_le 64 k ≡ after
        → (if after && is_bit high (k - 64) then 32 else (if nat_le 0 k && is_bit low (k - 0) then 32 else now))
        ≡ (if is_bit hidden k then 32 else now)
    by false is =
        let near : k < 64 = grind (arith, nat_tests, is) in
        let first : nat_le 0 k ≡ true = grind (arith, nat_tests) in
        let index : k - 0 ≡ k = omega arith in
        let bit : is_bit low (k - 0) ≡ is_bit hidden k = (λ i. is_bit (is_low i) (index i)) ∙ is_bit-low_word hidden k near in
        λ i. if first i && bit i then 32 else now
    by true is =
        let far : 64 ≤ k = grind (arith, nat_tests, is) in
        let first : nat_le 0 k ≡ true = grind (arith, nat_tests) in
        let index : k - 0 ≡ k = omega arith in
        let over : 64 + (k - 64) ≡ k = omega (arith, far) in
        let none : is_bit low (k - 0) ≡ false =
        (λ i. is_bit (is_low i) (index i)) ∙ is_bit-above (bit_and hidden 0xffff_ffff_ffff_ffff) 64 k (let most = and_le_r hidden 0xffff_ffff_ffff_ffff in omega (arith, most)) far in
        let bit : is_bit high (k - 64) ≡ is_bit hidden k =
        ap (λ (n : ℕ). is_bit n (k - 64)) is_high ∙ is_bit-shr hidden 64 (k - 64) ∙ ap (is_bit hidden) over in
        λ i. if bit i then 32 else (if first i && none i then 32 else now)
