-- A set whose last words are joined with those of a row gains the row's places.
use Rattle.std.proofs.Common.{⊎_elim, ◌⊎◌, inl, inr, ◌≡◌, ℕ, ◌+◌, ◌-◌, ◌/◌, ◌%◌, ◌<◌, ◌≤◌, ◌∙◌, sym, ap, arith, Bool, true, false, ◌&&◌, ◌||◌, List, length, slice_index_or}
use Rattle.std.specs.Prelude.{nat_le}
use Rattle.std.proofs.lemmas.Bool.Decides.{nat_tests}
use Rattle.std.proofs.lemmas.Bool.{cases_lt}
use Rattle.std.proofs.Math.Bool.{and-false}
use Rattle.machine_sets.specs.BitSets.Bits.{is_bit, has_place}
use Rattle.machine_sets.specs.BitSets.Joins.{IsJoined}
use Rattle.machine_sets.specs.BitSets.Rows.{is_in_entries}
use Rattle.machine_sets.proofs.BitSets.BitLemmas.{is_bit-or}
use Rattle.machine_sets.proofs.BitSets.PlaceLemmas.{has_place-word, has_place-past}

pub has_place-joined : (old row new : List ℕ) (to k : ℕ) → length row ≡ 15 → 15 ≤ to → to ≤ 15 → IsJoined 0 to old row new
    → has_place new k ≡ (has_place old k || is_in_entries row k)
has_place-joined old row new to k long end within joined = ⊎_elim below from (cases_lt k 1024) where
  same : (k / 64 < 16 + 0) ⊎ (16 + to ≤ k / 64) → has_place new k ≡ has_place old k
  same other =
      has_place-word new k ∙ ap (λ w. is_bit w (k % 64)) (joined.others (k / 64) other) ∙ sym (has_place-word old k)

  none_in : (a b : Bool) → a ≡ b → {c : Bool} → c ≡ false → a ≡ (b || c)
  none_in a b e {c} f = grind (arith, nat_tests)

  below : k < 1024 → has_place new k ≡ (has_place old k || is_in_entries row k)
  below low =
      let no_row : nat_le 1024 k ≡ false = grind (arith, nat_tests) in
      none_in _ _ (same (inl (omega arith))) (ap (λ b. b && has_place row (k - 1024)) no_row)

  from : 1024 ≤ k → has_place new k ≡ (has_place old k || is_in_entries row k)
  from high = ⊎_elim inside past (cases_lt k 1984) where
    inside : k < 1984 → has_place new k ≡ (has_place old k || is_in_entries row k)
    inside low =
        let yes : nat_le 1024 k ≡ true = grind (arith, nat_tests) in
        let j : ℕ = (k - 1024) / 64 in
        let at : 16 + (k - 1024) / 64 ≡ k / 64 = omega arith in
        let bit : (k - 1024) % 64 ≡ k % 64 = omega arith in
        let word = joined.joined ((k - 1024) / 64) (omega arith) (omega arith) in
        let of_row : is_bit (slice_index_or row ((k - 1024) / 64) 0) (k % 64) ≡ is_in_entries row k =
        ap (is_bit (slice_index_or row ((k - 1024) / 64) 0)) (sym bit) ∙ sym (has_place-word row (k - 1024))
        ∙ ap (λ b. b && has_place row (k - 1024)) (sym yes) in
        has_place-word new k ∙ ap (λ n. is_bit (slice_index_or new n 0) (k % 64)) (sym at)
        ∙ ap (λ w. is_bit w (k % 64)) word
        ∙ is_bit-or (slice_index_or old (16 + (k - 1024) / 64) 0) (slice_index_or row ((k - 1024) / 64) 0) (k % 64)
        ∙ ap (λ n. is_bit (slice_index_or old n 0) (k % 64) || is_bit (slice_index_or row ((k - 1024) / 64) 0) (k % 64)) at
        ∙ ap (λ b. is_bit (slice_index_or old (k / 64) 0) (k % 64) || b) of_row
        ∙ ap (λ b. b || is_in_entries row k) (sym (has_place-word old k))

    past : 1984 ≤ k → has_place new k ≡ (has_place old k || is_in_entries row k)
    past high =
        none_in _ _ (same (inr (omega arith)))
        (ap (λ b. nat_le 1024 k && b) (has_place-past row (k - 1024) (omega arith)) ∙ and-false _)
