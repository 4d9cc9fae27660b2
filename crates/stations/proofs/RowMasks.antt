-- The columns of a card in lanes: which of eighty have a row.
use Rattle.std.proofs.Common.{◌≡◌, ◌∙◌, ℕ, ◌+◌, ◌-◌, ◌*◌, ◌%◌, ◌^◌, arith, refl, sym, ap, Bool, true, false, ◌&&◌, ◌||◌, nat_lt, List, length, bit_or}
use Rattle.std.specs.Prelude.{nat_le}
use Rattle.std.proofs.lemmas.Bool.Decides.{nat_tests}
use Rattle.std.proofs.lemmas.List.{get_or_past}
use Rattle.net.proofs.Below.machine_sets.BitSets.BitLemmas.{is_bit-above, is_bit-low, is_bit-or, is_bit-shl, is_bit-zero}
use Rattle.net.specs.HubSets.{is_bit}
use Rattle.net.specs.HubRows.{has_at}

-- the columns of a card, of which sixty-four are looked at from the first one on and from the seventeenth on
pub columns-masked : (columns : List ℕ) (first last place k : ℕ) → length columns ≡ 80
    → ((j : ℕ) → is_bit first j ≡ (nat_lt j 64 && has_at columns (0 + j) place))
    → ((j : ℕ) → is_bit last j ≡ (nat_lt j 64 && has_at columns (16 + j) place))
    → is_bit (bit_or first (last * 2 ^ 16 % 2 ^ 128)) k ≡ has_at columns k place
columns-masked columns first last place k long one other =
    is_bit-or first (last * 2 ^ 16 % 2 ^ 128) k
    ∙ (λ i. front i || moved i)
    ∙ by (nat_le 16 k) (nat_lt k 64) (nat_lt k 80) refl refl refl
  where
    front : is_bit first k ≡ (nat_lt k 64 && has_at columns k place)
    front = one k ∙ ap (λ (j : ℕ). nat_lt k 64 && has_at columns j place) (omega arith)

    index : nat_le 16 k ≡ true → 16 + (k - 16) ≡ k
    index high = grind (arith, nat_tests, high)

    down : (from : Bool) → nat_le 16 k ≡ from → (from && is_bit last (k - 16)) ≡ (from && (nat_lt k 80 && has_at columns k place))
    down true is =
        let same : nat_lt (k - 16) 64 ≡ nat_lt k 80 = grind (arith, nat_tests, is) in
        other (k - 16) ∙ (λ i. same i && has_at columns (index is i) place)
    down false is = refl

    moved : is_bit (last * 2 ^ 16 % 2 ^ 128) k ≡ (nat_le 16 k && (nat_lt k 80 && has_at columns k place))
    moved = by_width (nat_lt k 128) refl
      where
        by_width : (narrow : Bool) → nat_lt k 128 ≡ narrow
            → is_bit (last * 2 ^ 16 % 2 ^ 128) k ≡ (nat_le 16 k && (nat_lt k 80 && has_at columns k place))
        by_width true is =
            is_bit-low (last * 2 ^ 16) 128 k (grind (arith, nat_tests, is)) ∙ is_bit-shl last 16 k ∙ down (nat_le 16 k) refl
        by_width false is =
            let past : nat_lt k 80 ≡ false = grind (arith, nat_tests, is) in
            let high : nat_le 16 k ≡ true = grind (arith, nat_tests, is) in
            is_bit-above (last * 2 ^ 16 % 2 ^ 128) 128 k (omega arith) (grind (arith, nat_tests, is)) ∙ rw (past, high) refl

    by : (high low inside : Bool) → nat_le 16 k ≡ high → nat_lt k 64 ≡ low → nat_lt k 80 ≡ inside
        → ((low && has_at columns k place) || (high && (inside && has_at columns k place))) ≡ has_at columns k place
    by high true true is_high is_low is_inside = twice (has_at columns k place) high
      where
        twice : (has also : Bool) → (has || (also && has)) ≡ has
        twice true also = refl
        twice false true = refl
        twice false false = refl
    by true false true is_high is_low is_inside = refl
    by false false inside is_high is_low is_inside = absurd (wrong k is_high is_low)
      where
        wrong : (k : ℕ) → nat_le 16 k ≡ false → nat_lt k 64 ≡ false → ⊥
        wrong k a b = grind (arith, nat_tests, a, b)
    by high true false is_high is_low is_inside = absurd (wrong k is_low is_inside)
      where
        wrong : (k : ℕ) → nat_lt k 64 ≡ true → nat_lt k 80 ≡ false → ⊥
        wrong k a b = grind (arith, nat_tests, a, b)
    by true false false is_high is_low is_inside =
        sym (ap (λ (w : ℕ). is_bit w place) (get_or_past columns k 0 (grind (arith, nat_tests, is_inside, long))) ∙ is_bit-zero place)
