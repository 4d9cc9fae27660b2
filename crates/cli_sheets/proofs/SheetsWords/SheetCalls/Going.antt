-- Going through the lines of a deck to one of them.
use Rattle.std.proofs.Common.{◌≡◌, ◌≢◌, ◌∙◌, ◌⊎◌, inl, inr, sym, ap, ℕ, suc, ◌+◌, ◌-◌, ◌<◌, ◌≤◌, List, [], ◌∷◌, Some, None, length, slice_get, get_or, arith}
use Rattle.std.proofs.lemmas.Option.{slice_get_cases}

-- the lines that are left behind so many
abbrev pub AreBehind : (lines left : List (List ℕ)) → (passed : ℕ) → Type 0
AreBehind lines left passed = (k : ℕ) → slice_get left k ≡ slice_get lines (k + passed)

pub none-passed : (lines : List (List ℕ)) (passed : ℕ) → passed ≡ 0 → AreBehind lines lines passed
none-passed lines passed none k = let e : k ≡ k + passed = omega (arith, none) in ap (slice_get lines) e

pub one-passed : (lines left after : List (List ℕ)) (line : List ℕ) (passed : ℕ) → left ≡ line ∷ after → AreBehind lines left passed
    → AreBehind lines after (passed + 1)
one-passed lines left after line passed split behind k =
    let e : suc k + passed ≡ k + (passed + 1) = omega arith in
    ap (λ (ls : List (List ℕ)). slice_get ls (suc k)) (sym split) ∙ behind (suc k) ∙ ap (slice_get lines) e

-- the line that comes next
pub line-there : (lines left after : List (List ℕ)) (line : List ℕ) (passed wanted : ℕ) → left ≡ line ∷ after → AreBehind lines left passed
    → passed ≡ wanted → slice_get lines wanted ≡ Some line
line-there lines left after line passed wanted split behind there =
    let e : wanted ≡ 0 + passed = omega (arith, there) in
    ap (slice_get lines) e ∙ sym (behind 0) ∙ ap (λ (ls : List (List ℕ)). slice_get ls 0) split

-- no line comes next
pub none-there : (lines left : List (List ℕ)) (passed : ℕ) → left ≡ [] → AreBehind lines left passed → length lines ≤ passed
none-there lines left passed none behind = by (slice_get_cases lines passed).1
  where
    here : slice_get lines passed ≡ None
    here =
        let e : passed ≡ 0 + passed = omega arith in
        ap (slice_get lines) e ∙ sym (behind 0) ∙ ap (λ (ls : List (List ℕ)). slice_get ls 0) none

    by : ((x : List ℕ) × (passed < length lines) × (slice_get lines passed ≡ Some x) × (get_or lines passed x ≡ x))
        ⊎ ((length lines ≤ passed) × (slice_get lines passed ≡ None)) → length lines ≤ passed
    by (inl found) = absurd (let both : Some found.0 ≡ None = sym found.2 ∙ here in cc)
    by (inr past) = past.0
