-- Lists of what a test tells of the numbers from 1 on.
use Rattle.std.proofs.Common.{◌≡◌, ◌<◌, ◌≤◌, ◌+◌, ◌∙◌, refl, sym, arith, ℕ, zero, suc, map, Bool, false, List, length, get_or, slice_index_or}
use Rattle.std.specs.List.{range_with_len}
use Rattle.std.proofs.lemmas.List.{same_lists, get_or_default}
use Rattle.std.proofs.lemmas.List.FromFn.{get_or-map-range_with_len, length-map-range_with_len}
use Rattle.selectors.specs.Numbered.{tests_to}

-- a list that tells it of each number
pub all-tests : (last : ℕ) (tests : List Bool) (test : ℕ → Bool) → length tests ≡ last
    → ((k : ℕ) → k < last → slice_index_or tests k false ≡ test (k + 1)) → tests ≡ tests_to last test
unfolding tests_to
all-tests last tests test long is = same_lists tests (tests_to last test) (long ∙ sym (length-map-range_with_len test 1 last)) at
  where
    at : (k : ℕ) (d : Bool) → k < length tests → get_or tests k d ≡ get_or (tests_to last test) k d
    at k d within = get_or_default tests k d false within ∙ is k (omega (arith, within, long))
        ∙ sym (get_or-map-range_with_len test 1 last k (k + 1) d (omega (arith, within, long)) (omega arith))

-- tests that agree on the numbers
pub tests-same : (last : ℕ) (one other : ℕ → Bool) → ((n : ℕ) → 1 ≤ n → n ≤ last → one n ≡ other n) → tests_to last one ≡ tests_to last other
unfolding tests_to
tests-same last one other same = by 1 last (λ n low high. same n low (omega (arith, high)))
  where
    by : (from count : ℕ) → ((n : ℕ) → from ≤ n → n < from + count → one n ≡ other n)
        → map one (range_with_len from count) ≡ map other (range_with_len from count)
    by from zero alike = refl
    by from (suc count) alike =
        rw (alike from (omega arith) (omega arith), by (from + 1) count (λ n low high. alike n (omega (arith, low)) (omega (arith, high)))) refl
