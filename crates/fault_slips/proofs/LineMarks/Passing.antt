-- Going through the lines of a text, one by one.
use Rattle.std.proofs.Common.{◌≡◌, ℕ, zero, suc, ◌+◌, ◌-◌, ◌≤◌, List, [], ◌∷◌, slice_index_or, refl, sym, ap, ◌∙◌, arith}

-- after a line the places count one less
pub after-first : (lines before after : List (List ℕ)) (first : List ℕ) (passed : ℕ) → before ≡ first ∷ after
    → ((k : ℕ) → slice_index_or before k [] ≡ slice_index_or lines (k + passed) [])
    → (k : ℕ) → slice_index_or after k [] ≡ slice_index_or lines (k + (passed + 1)) []
after-first lines before after first passed split so_far k =
    let e : suc k + passed ≡ k + (passed + 1) = omega arith in
    ap (λ ls. slice_index_or ls (suc k) []) (sym split) ∙ so_far (suc k) ∙ ap (λ n. slice_index_or lines n []) e

-- past the last line there is none
pub past-last : (lines before : List (List ℕ)) (passed wanted : ℕ) → before ≡ [] → passed ≤ wanted
    → ((k : ℕ) → slice_index_or before k [] ≡ slice_index_or lines (k + passed) []) → slice_index_or lines wanted [] ≡ []
past-last lines before passed wanted none within so_far =
    let e : wanted - passed + passed ≡ wanted = omega (arith, within) in
    sym (ap (λ n. slice_index_or lines n []) e) ∙ sym (so_far (wanted - passed))
    ∙ ap (λ ls. slice_index_or ls (wanted - passed) []) none ∙ empty (wanted - passed)
  where
    empty : (k : ℕ) → slice_index_or (let none : List (List ℕ) = [] in none) k [] ≡ []
    empty zero = refl
    empty (suc k) = refl

-- the line at the place that was gone to
pub line-at : (lines before after : List (List ℕ)) (line : List ℕ) (passed wanted : ℕ) → before ≡ line ∷ after → passed ≡ wanted
    → ((k : ℕ) → slice_index_or before k [] ≡ slice_index_or lines (k + passed) []) → line ≡ slice_index_or lines wanted []
line-at lines before after line passed wanted split there so_far =
    let e : 0 + passed ≡ wanted = omega (arith, there) in
    ap (λ ls. slice_index_or ls 0 []) (sym split) ∙ so_far 0 ∙ ap (λ n. slice_index_or lines n []) e
